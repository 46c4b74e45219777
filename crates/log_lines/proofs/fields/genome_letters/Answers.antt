use Rattle.std.proofs.Common.{◌≡◌, ◌∙◌, List, Option, IfOk, option_map, sym, subst}
use Rattle.log_lines.proofs.Prelude.{Letter}
use Rattle.log_lines.proofs.GenomeLemmas.{genome_each, genome_other}
use Rattle.log_lines.proofs.fields.genome_letters.Goals as goal

pub returns-then-not-is_genome_length : goal.returns-then-not-is_genome_length
returns-then-not-is_genome_length c =
    genome_other c.args.word.now (sym c.is_genome_length.ensures ∙ c.if-not-is_genome_length.true)

pub returns : goal.returns
returns c =
    subst (λ (o : Option (List Letter)).
    IfOk c.letters_of.result (λ found. option_map (λ v. v.items) found ≡ o))
    (genome_each c.args.word.now
    (sym c.is_genome_length.ensures ∙ c.if-not-is_genome_length.false)) c.letters_of.ensures
