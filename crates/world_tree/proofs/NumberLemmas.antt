-- Organisms that stand in a list at their ids.
use Rattle.std.proofs.Common.{◌≡◌, ◌≢◌, ◌∙◌, sym, ap, subst, ℕ, zero, suc, ◌<◌, Bool, true, false, cond, eqb, List, [], ◌∷◌, length, take, drop, get_or, Some, None, eqb-true, not, arith, inl, inr, eq-eqb, ne_eqb}
use Rattle.std.specs.Prelude.{Contains, is_some, slice_get}
use Rattle.world_tree.proofs.Prelude.{cases_Bool, take-append-drop, All-filter, Contains-get_or, filter_passes, get_or_from_slice_get, option_and_then_some, slice_get_within, Link, AreOlder, link_of, without_id, AreNumbered, IsBelow, IsNumberedWorld, World, id_of, IsStanding, get_more, contains_more}
use Rattle.lineage_log.proofs.AncestorLemmas.{cases_Option}
use Rattle.lineage_log.proofs.KeptLemmas.{found_at}

-- a front is numbered
pub numbered_front : (k : ℕ) (links : List Link) → AreNumbered links → AreNumbered (take k links)
numbered_front k links are place link there = are place link
    (subst (λ l. slice_get l place ≡ Some link) (take-append-drop k links)
    (get_more (take k links) (drop k links) place link there))

-- where a link is found
pub found_link : (links : List Link) (id : ℕ) (link : Link) → link_of links id ≡ Some link
    → (place : ℕ) × (slice_get links place ≡ Some link) × (link.id ≡ id)
found_link [] id link is = absurd cc
found_link (first ∷ links) id link is =
    elim (cases_Bool (eqb first.id id)) [
      | inl here ↦
          let it = rw here at is in
          let same : first ≡ link = cc in
          (0, it, ap (λ (l : Link). l.id) (sym same) ∙ eqb-true first.id id here)
      | inr other ↦
          let rest = found_link links id link (rw other at is) in
          (suc rest.0, rest.1, rest.2)
    ]

-- in a numbered list a link is found by its place
pub link_at : (links : List Link) (place : ℕ) (link : Link) → AreNumbered links
    → slice_get links place ≡ Some link → link_of links place ≡ Some link
link_at links place link are there =
    let id = (are place link there).id in
    let some : is_some (link_of links link.id) ≡ true =
    rw (get_or_from_slice_get links place link link there)
    at (found_at links place link (slice_get_within links place link there)) in
    elim (cases_Option (link_of links link.id)) [
      | inl none ↦ absurd (let no = rw none at some in cc)
      | inr found ↦
          let at = found_link links link.id found.0 found.1 in
          let same : at.0 ≡ place = sym (are at.0 found.0 at.1).id ∙ at.2 ∙ id in
          ap (link_of links) (sym id) ∙ found.1 ∙ sym at.1 ∙ ap (slice_get links) same ∙ there
    ]

-- parents are older
pub older_of : (links : List Link) → AreNumbered links → AreOlder links
older_of links are id above is =
    option_and_then_some (λ (l : Link). l.parent) (link_of links id) above is (λ link e parent.
    let there = found_link links id link e in
    let n = are there.0 link there.1 in
    let low : above < there.0 = subst (IsBelow there.0) parent n.parent in
    omega (arith, low, n.id, there.2))

-- who stands in a cell is one of all
pub standing_low : (w : World) (id : ℕ) → IsNumberedWorld w → IsStanding w.cells id
    → id < length w.everyone
standing_low w id is stands =
    let here : get_or w.cells stands.0 None ≡ Some stands.1 =
    get_or_from_slice_get w.cells stands.0 (Some stands.1) None stands.2 in
    let low : stands.1.id < length w.everyone =
    subst (λ slot. IsBelow (length w.everyone) (id_of slot)) here
    (is.standing stands.0 None (slice_get_within w.cells stands.0 (Some stands.1) stands.2)) in
    omega (arith, low, stands.3)

-- ---- ids in a list

-- without an id the others are there
pub without_to : (id x : ℕ) (ids : List ℕ) → Contains ids x → x ≢ id
    → Contains (without_id id ids) x
without_to id x [] is apart = absurd (omega (arith, is.1))
without_to id x (y ∷ ids) (zero, low, here) apart =
    rw (ne_eqb y id (λ e. apart (sym here ∙ e))) (0, omega arith, here)
without_to id x (y ∷ ids) (suc k, low, here) apart =
    let rest = without_to id x ids (k, omega (arith, low), here) apart in
    elim (eqb y id) as (λ b. Contains (cond (not b) (y ∷ without_id id ids) (without_id id ids)) x)
    [ true ↦ rest | false ↦ contains_more x y (without_id id ids) rest ]

-- and it isn't
pub without_from : (id x : ℕ) (ids : List ℕ) → Contains (without_id id ids) x
    → Contains ids x × (x ≢ id)
without_from id x ids is =
    let other : ℕ → Bool = λ (y : ℕ). not (eqb y id) in
    let stays = rw is.2 at (filter_passes other ids is.0 x is.1) in (
      subst (Contains ids) is.2 (All-filter other (Contains ids) ids (Contains-get_or ids)
          is.0 x is.1),
      λ same. let e = eq-eqb x id same in absurd cc,
    )
