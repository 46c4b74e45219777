-- A bank that grows with the list of all organisms.
use Rattle.std.proofs.Common.{◌≡◌, refl, List, [], ◌∷◌, ◌++◌, append-nil, map}
use Rattle.world_core.proofs.Prelude.{map_push, genome_in, Delivered, HasEachOnce, with_genome, Letter, Link, OrganismState, Scene, with_newcomer, TakesIn, genomes_ever, Grows, IsPrefix-trans, with_genome-begins}
use Rattle.world_core.proofs.JoinLemmas.{each-through}

-- a newcomer stands behind all others
pub newcomer-added : (scene : Scene) (link : Link) (organism : OrganismState)
    → (with_newcomer scene link organism).everyone ≡ scene.everyone ++ link ∷ []
unfolding with_newcomer
newcomer-added scene link organism = refl

-- where nobody comes nothing is interned
pub Grows_same : (old new : List (List Letter)) (before after : List Link) → new ≡ old
    → after ≡ before → Grows old new before after
Grows_same old new before after same all = record {
  stays = rw same ([], append-nil old);
  each = λ has. rw (same, all) has;
}

-- one step after another
pub Grows_on : (old now new : List (List Letter)) (before then after : List Link)
    → Grows old now before then → Grows now new then after → Grows old new before after
Grows_on old now new before then after first second = record {
  stays = IsPrefix-trans old now new first.stays second.stays;
  each = λ has. second.each (first.each has);
}

-- what the bank's crate says of one genome more
abbrev pub OneMore : Type 0
OneMore = (genotypes genomes : List (List Letter)) (genome : List Letter)
    → HasEachOnce genotypes genomes
    → HasEachOnce (with_genome genotypes genome) (genomes ++ genome ∷ [])

-- a founder comes
pub Grows_founder : OneMore
    → (old new : List (List Letter)) (before after : List Link) (link : Link) (genome : List Letter)
    → new ≡ with_genome old genome → after ≡ before ++ link ∷ [] → link.genome ≡ genome
    → Grows old new before after
Grows_founder more old new before after link genome interned came same = record {
  stays = rw interned (with_genome-begins old genome);
  each = λ has. rw (interned, came, map_push (λ (l : Link). l.genome) before link, same)
      (more old (genomes_ever before) genome has);
}

-- newborns come whose genomes were taken in
pub Grows_births : (old new : List (List Letter)) (before after : List Link)
    (births : List Delivered) → TakesIn old new births
    → genomes_ever after ≡ genomes_ever before ++ map genome_in births → Grows old new before after
Grows_births old new before after births takes all = record {
  stays = takes.stays;
  each = λ has. rw all
      (each-through new old (genomes_ever before) (map genome_in births) has.members takes.each);
}
