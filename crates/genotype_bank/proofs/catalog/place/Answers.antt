use Rattle.std.proofs.Common.{◌∙◌, ap, sym, Some}
use Rattle.genotype_bank.proofs.Prelude.{slice_get-map, same_letters, letters_in, letters_of}
use Rattle.std.specs.Option.{option_map}
use Rattle.genotype_bank.proofs.DifferentLemmas.{map-insert_key}
use Rattle.genotype_bank.proofs.PackedLemmas.{packed_eq}
use Rattle.genotype_bank.proofs.catalog.place.Goals as goal

pub returns-clause-placed : goal.returns-clause-placed
returns-clause-placed c =
    ap letters_in c.in_ok-index.ensures.keys
    ∙ map-insert_key _ same_letters letters_of (packed_eq c.one_index.ensures.list)
    c.args.genomes.now.keys c.args.genome

pub returns-clause-number : goal.returns-clause-number
returns-clause-number c =
    let one_list = c.one_index.ensures.list in
    let stored = c.in_ok-index.ensures.stored in
    slice_get-map letters_of c.insert_full.new.self.keys c.in_ok-index.index
    ∙ ap (option_map letters_of) stored.1
    ∙ ap Some (sym ((one_list (letters_of c.args.genome) (letters_of stored.0)).0
    (sym (packed_eq one_list c.args.genome stored.0) ∙ stored.2)))
