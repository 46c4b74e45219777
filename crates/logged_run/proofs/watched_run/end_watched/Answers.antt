use Rattle.logged_run.proofs.Prelude.{kept_writes}
use Rattle.logged_run.proofs.NewsLemmas.{line_as}
use Rattle.logged_run.proofs.watched_run.end_watched.Goals as goal

pub write_last_picture-written-requires-clause-observer : goal.write_last_picture-written-requires-clause-observer
write_last_picture-written-requires-clause-observer g c = rw c.requires.config c.requires.begins

pub write_last_picture-written-requires-clause-note : goal.write_last_picture-written-requires-clause-note
write_last_picture-written-requires-clause-note g c =
    rw (c.requires.config, c.requires.update) c.requires.heard

pub returns : goal.returns
returns g c = record {
  world = c.kept.ensures.value;
  line = kept_writes c.kept.ensures.ok c.kept.ensures.err (line_as c.args.newest c.requires.config
      c.requires.update c.requires.update c.write_last_picture-written.ensures);
}
