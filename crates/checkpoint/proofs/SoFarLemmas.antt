-- What was told, at its start and with one organism more.
use Rattle.std.proofs.Common.{◌≡◌, ℕ, ◌+◌, ◌≤◌, true, List, [], ◌∷◌, ◌++◌, map, sym, ap, ◌∙◌}
use Rattle.checkpoint.proofs.Prelude.{nat_cmp, BTreeSet, Updates, leb-true, map-append, CpuImage, Resident, IsMachineLine, IsOrganismLine, OrganismValues, head_values, organism_values, Placed, may_follow, may_stand, placed_of, placed_in, SoFarValue, IsKept, so_far_of}
use Rattle.saved_lines.specs.declared.state_head.StateHead.{StateHead}
use Rattle.checkpoint.proofs.KeptLemmas.{above_more, new_more, saved_more}
use Rattle.checkpoint.proofs.StandsLemmas.{follows_by_rules, may_stand_there, stands_by_rules}

-- one organism more was told
pub kept_more : (so_far : SoFarValue) (next_cell : ℕ) (ids more : BTreeSet ℕ) (o : OrganismValues)
    (cpu : CpuImage) → IsKept so_far next_cell ids → may_stand so_far.head so_far.placed o ≡ true
    → may_follow so_far.head o cpu ≡ true → IsOrganismLine o → IsMachineLine cpu
    → Updates nat_cmp ids more o.id true
    → IsKept (record {
      head = so_far.head;
      placed = so_far.placed ++ placed_of so_far.head o cpu ∷ [];
    }) (o.cell + 1) more
kept_more so_far next_cell ids more o cpu kept stands follows organism machine updates =
    let by_rules = stands_by_rules so_far.head so_far.placed o stands in
    let one = placed_of so_far.head o cpu in
    let fits : next_cell ≤ o.cell =
    leb-true next_cell o.cell (sym (kept.above o.cell) ∙ by_rules.above) in
    record {
      saved = saved_more so_far.head so_far.placed one kept.saved
          (may_stand_there so_far.head o cpu so_far.placed kept.saved.values organism machine
          by_rules (follows_by_rules so_far.head o cpu follows)) by_rules.above by_rules.fresh;
      above = above_more so_far.placed one next_cell kept.above fits;
      fresh = new_more so_far.placed one ids more kept.fresh updates;
    }

-- residents with one more are what was told with one organism more
pub so_far_more : (head : StateHead) (residents : List Resident) (one : Resident)
    (o : OrganismValues) (cpu : CpuImage) → organism_values one ≡ o → one.image.cpu ≡ cpu
    → so_far_of head (residents ++ one ∷ [])
    ≡ record {
      head = head_values head;
      placed = map (placed_in (head_values head)) residents
          ++ placed_of (head_values head) o cpu ∷ [];
    }
so_far_more head residents one o cpu values same =
    let front = map (placed_in (head_values head)) residents in
    let placed : placed_in (head_values head) one ≡ placed_of (head_values head) o cpu =
    ap (λ (v : OrganismValues). placed_of (head_values head) v one.image.cpu) values
    ∙ ap (λ (c : CpuImage). placed_of (head_values head) o c) same in
    ap (λ (l : List Placed). let so_far : SoFarValue = record {
      head = head_values head;
      placed = l;
    } in so_far)
    (map-append (placed_in (head_values head)) residents (one ∷ [])
    ∙ ap (λ (p : Placed). front ++ p ∷ []) placed)
