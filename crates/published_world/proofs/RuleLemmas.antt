-- Each step keeps the rule.
use Rattle.std.proofs.Common.{◌≡◌, ◌≢◌, ◌⊎◌, ℕ, zero, suc, ◌+◌, List, [], ◌∷◌, ◌++◌, length, set, true, false, true≢false, refl, sym, ap, ◌∙◌, subst, ⊎_elim, arith, length-append}
use mathlib.Core.List.{IsPrefix}
use mathlib.Core.Option.{some, some-ne-none, some-injective}
use lib.ListN.{get_elem?}
use Rattle.atomic_table.proofs.Lists.{at_set, at_snoc, set_again}
use Rattle.crossbeam_utils.specs.Register.{Admits, Turns, TurnsAt, Forks, Merges}
use Rattle.published_world.specs.declared.shown.Shown.{Shown}
use Rattle.published_world.specs.declared.view.View.{View}
use Rattle.published_world.specs.PublicationHistory.{MayFollow}
use Rattle.published_world.specs.Rule.{newcomer, reader_of, told, Fits, Shows, Appends, Keeps, Looks}
use Rattle.published_world.proofs.PrefixLemmas.{prefix_self, prefix_more, prefix_of_none}
use Rattle.published_world.proofs.PublicationLemmas.{last_of_more, none_published, publication_of_more}

module _ {P : Type 0} where
  -- after one view has changed each still fits, where the others did
  fits_set : (writer : ℕ) (log : List P) (views : List (View P)) (by : ℕ) (w : View P)
      → ((seat : ℕ) (v : View P) → seat ≢ by → get_elem? views seat ≡ some v
      → Fits writer log seat v) → Fits writer log by w → (seat : ℕ) (v : View P)
      → get_elem? (set views by w) seat ≡ some v → Fits writer log seat v
  fits_set writer log views by w others mine seat v e =
      ⊎_elim
      (λ (x : (seat ≡ by) × (w ≡ v)). subst (λ (y : ℕ × View P). Fits writer log y.0 y.1)
      (λ i. (sym x.0 i, x.1 i)) mine)
      (λ (x : (seat ≢ by) × (get_elem? views seat ≡ some v)). others seat v x.0 x.1)
      (at_set views by seat w v e)

  -- who doesn't write fits by what it has seen
  fits_reader : (writer : ℕ) (log : List P) (seat : ℕ) (v : View P) → v.writes ≡ false
      → IsPrefix v.seen log → Fits writer log seat v
  fits_reader writer log seat v reads p = record {
    prefix = p;
    whole = λ writes. absurd (true≢false (sym writes ∙ reads));
  }

  -- who has seen nothing fits each history at each seat
  fits_new : (writer : ℕ) (log : List P) (seat : ℕ) → Fits writer log seat newcomer
  fits_new writer log seat = fits_reader writer log seat newcomer refl (log, refl)

module _ {P O : Type 0} (number : P → ℕ) (of : P → O) where
  -- nothing was published yet
  pub begins : (x : Shown P) → x.count ≡ 0 → Keeps number of x (newcomer ∷ [])
  begins x none = (
    0,
    [],
    record {
      shows = record {
        length_is = sym none;
        last_is = λ some_of. absurd (omega (arith, none, some_of));
      };
      publication = none_published number of;
      fits = one;
    },
  )
    where
      one : (seat : ℕ) (v : View P) → get_elem? (newcomer ∷ []) seat ≡ some v → Fits 0 [] seat v
      one zero v e = subst (Fits 0 [] 0) (some-injective _ _ e) (fits_new 0 [] 0)
      one (suc seat) v e = absurd (some-ne-none v (sym e))

  -- who has seen nothing may come at any time
  pub admits : Admits (Keeps number of) newcomer
  admits x views h = (
    h.0,
    h.1,
    record {
      shows = h.2.shows;
      publication = h.2.publication;
      fits = λ seat v e. ⊎_elim (h.2.fits seat v)
          (λ (same : newcomer ≡ v). subst (Fits h.0 h.1 seat) same (fits_new h.0 h.1 seat))
          (at_snoc views newcomer v seat e);
    },
  )

  -- a reader takes in the whole history
  pub looks : (by : ℕ) (v : View P) → Turns (Keeps number of) by v (λ x. x) (Looks number of)
  looks by v x views h at =
      let mine = h.2.fits by v at in
      let w : View P = record { writes = v.writes; seen = h.1 } in
      let fits : Fits h.0 h.1 by w =
      record {
        prefix = prefix_self h.1;
        whole = λ writes. let m = mine.whole writes in
            (m.0, refl, m.2);
      } in (
        w,
        (
          h.0,
          h.1,
          record {
            shows = h.2.shows;
            publication = h.2.publication;
            fits = fits_set h.0 h.1 views by w (λ j u _ e. h.2.fits j u e) fits;
          },
        ),
        record {
          writes = refl;
          prefix = mine.prefix;
          shows = h.2.shows;
          publication = h.2.publication;
        },
      )

  -- the publisher appends a picture: it is the one that writes, or nothing was published yet
  pub appends : (by : ℕ) (v : View P) (x y : Shown P) → (v.writes ≡ true) ⊎ (x.count ≡ 0)
      → y.count ≡ x.count + 1 → MayFollow number of v.seen y.picture.value
      → TurnsAt (Keeps number of) by v x y Appends
  appends by v x y right more may views h at =
      let mine = h.2.fits by v at in
      let p = y.picture.value in
      let whole : v.seen ≡ h.1 =
      ⊎_elim (λ writes. (mine.whole writes).1)
      (λ none. prefix_of_none v.seen h.1 mine.prefix (h.2.shows.length_is ∙ none)) right in
      let alone : (seat : ℕ) (u : View P) → get_elem? views seat ≡ some u → u.writes ≡ true
      → seat ≡ by = λ seat u e writes.
      let theirs = (h.2.fits seat u e).whole writes in
      ⊎_elim (λ me. theirs.0 ∙ sym ((mine.whole me).0))
      (λ none. absurd (omega (arith, theirs.2, h.2.shows.length_is, none))) right in
      let w : View P = record { writes = true; seen = v.seen ++ p ∷ [] } in
      let log = h.1 ++ p ∷ [] in
      let same : v.seen ++ p ∷ [] ≡ log = ap (λ l. l ++ p ∷ []) whole in
      let n : length log ≡ length h.1 + 1 = length-append h.1 (p ∷ []) in
      let shows : Shows log y =
      record {
        length_is = omega (arith, n, h.2.shows.length_is, more);
        last_is = λ _. last_of_more h.1 p;
      } in
      let fits : Fits by log by w =
      record {
        prefix = subst (λ l. IsPrefix l log) (sym same) (prefix_self log);
        whole = λ _. (refl, same, omega (arith, n));
      } in
      let others : (seat : ℕ) (u : View P) → seat ≢ by → get_elem? views seat ≡ some u
      → Fits by log seat u = λ seat u apart e. record {
        prefix = prefix_more u.seen h.1 p (h.2.fits seat u e).prefix;
        whole = λ writes. absurd (apart (alone seat u e writes));
      } in (
        w,
        (
          by,
          log,
          record {
            shows = shows;
            publication = publication_of_more number of h.1 p h.2.publication
                (subst (λ l. MayFollow number of l p) whole may);
            fits = fits_set by log views by w others fits;
          },
        ),
        refl,
      )

  -- a reader that has seen as much as a view may come beside it
  pub tells : (by : ℕ) (v : View P) → Forks (Keeps number of) by v v (reader_of v)
  tells by v x views h at =
      let mine = h.2.fits by v at in (
        h.0,
        h.1,
        record {
          shows = h.2.shows;
          publication = h.2.publication;
          fits = λ seat u e. ⊎_elim
              (λ was. h.2.fits seat u (subst (λ l. get_elem? l seat ≡ some u)
              (set_again views by v at) was))
              (λ (same : reader_of v ≡ u). subst (Fits h.0 h.1 seat) same
              (fits_reader h.0 h.1 seat (reader_of v) refl mine.prefix))
              (at_snoc (set views by v) (reader_of v) u seat e);
        },
      )

  -- a reader takes over what another has seen, who has then seen nothing
  pub learns : (by : ℕ) (v : View P) (other : ℕ) (u : View P) → v.writes ≡ false
      → Merges (Keeps number of) by v other u (told v u) newcomer
  learns by v other u reads x views h at apart there =
      let w = told v u in
      let theirs = ⊎_elim (λ (t : (other ≡ by) × (w ≡ u)). absurd (apart t.0))
      (λ (t : (other ≢ by) × (get_elem? views other ≡ some u)). h.2.fits other u t.1)
      (at_set views by other w u there) in
      let mine : Fits h.0 h.1 by w = fits_reader h.0 h.1 by w reads theirs.prefix in (
        h.0,
        h.1,
        record {
          shows = h.2.shows;
          publication = h.2.publication;
          fits = fits_set h.0 h.1 (set views by w) other newcomer
              (λ j y _ e. fits_set h.0 h.1 views by w (λ i z _ e'. h.2.fits i z e') mine j y e)
              (fits_new h.0 h.1 other);
        },
      )
