-- What sites hold, as they are made, marked, written and read.
use Rattle.std.proofs.Common.{arith, refl, sym, ap, ◌≡◌, ◌∙◌, ℕ, zero, suc, ◌+◌, ◌<◌, ◌≤◌, List, [], ◌∷◌, ◌++◌, Bool, true, false, cond, length, map, replicate, take, drop, get_or, set}
use Rattle.std.specs.Prelude.{count_by}
use Rattle.virtual_cpu.proofs.Prelude.{length-map, map-append, map-set, map_push, take_more, take_all, take-map, drop-map, get_or-map, set-get_or, Letter, NopA, Site, letters_of, count_of, SiteLists, clean_of, executed_of, copied_of, fresh_site, fresh_lists, with_places, with_copy, lists_in}
use Rattle.std.proofs.lemmas.List.Sums.{sum_by-cons}

-- there are as many sites as letters
pub length-seen : (sites : List Site) (room : ℕ) (lists : SiteLists) → lists_in sites room ≡ lists
    → length sites ≡ length lists.letters
length-seen sites room lists view = sym (length-map sites (λ (s : Site). s.letter))
    ∙ ap (λ (l : SiteLists). length l.letters) view

-- fresh sites
fresh-seen : (text : List Letter) (room : ℕ)
    → lists_in (map fresh_site text) room ≡ fresh_lists text room
fresh-seen [] room = refl
fresh-seen (letter ∷ text) room = ap (λ (l : SiteLists). record {
  letters = letter ∷ l.letters;
  clean = letter ∷ l.clean;
  executed = false ∷ l.executed;
  copied = false ∷ l.copied;
  room = l.room;
}) (fresh-seen text room)

-- sites that are fresh ones
pub lists-fresh : (sites : List Site) (text : List Letter) (room : ℕ) → sites ≡ map fresh_site text
    → lists_in sites room ≡ fresh_lists text room
lists-fresh sites text room made = rw made (fresh-seen text room)

-- sites that are made fresh
refreshed : (sites : List Site)
    → map (λ (site : Site). fresh_site site.letter) sites ≡ map fresh_site (letters_of sites)
refreshed [] = refl
refreshed (site ∷ sites) = ap (λ l. fresh_site site.letter ∷ l) (refreshed sites)

-- the first sites, made fresh
pub lists-reset : (sites kept : List Site) (keep room : ℕ)
    → kept ≡ map (λ (site : Site). fresh_site site.letter) (take keep sites)
    → lists_in kept room ≡ fresh_lists (take keep (letters_of sites)) room
lists-reset sites kept keep room made =
    lists-fresh kept (take keep (letters_of sites)) room
    (made ∙ refreshed (take keep sites)
    ∙ ap (map fresh_site) (sym (take-map (λ (site : Site). site.letter) keep sites)))

-- another site at a place
lists-set : (sites : List Site) (place : ℕ) (site : Site) (room : ℕ)
    → ◌≡◌ {A = SiteLists} (lists_in (set sites place site) room) (record {
      letters = set (letters_of sites) place site.letter;
      clean = set (clean_of sites) place site.clean;
      executed = set (executed_of sites) place site.executed;
      copied = set (copied_of sites) place site.copied;
      room = room;
    })
lists-set sites place site room = simp map-set

module _ (sites : List Site) (place : ℕ) (site : Site) (room : ℕ) (lists : SiteLists)
    (view : lists_in sites room ≡ lists) (within : place < length lists.letters)
    (read : site ≡ get_or sites place site) where
  -- what the place has of one list, put there again, leaves the list
  unchanged : {A : Type 0} (f : Site → A) → set (map f sites) place (f site) ≡ map f sites
  unchanged f =
      let inside : place < length sites =
      omega (arith, within, length-seen sites room lists view) in
      let here : f site ≡ get_or (map f sites) place (f site) =
      ap f read ∙ sym (get_or-map f sites place site (f site) inside) in
      ap (λ x. set (map f sites) place x) here ∙ set-get_or (map f sites) place (f site)

  -- the place is marked executed
  pub lists-marked : ◌≡◌ {A = SiteLists}
      (lists_in (set sites place (record site { executed = true })) room)
      (record lists { executed = set lists.executed place true })
  lists-marked =
      lists-set sites place (record site { executed = true }) room
      ∙ rw (
        unchanged (λ (s : Site). s.letter),
        unchanged (λ (s : Site). s.clean),
        unchanged (λ (s : Site). s.copied),
      )
      (ap (λ (l : SiteLists). record l { executed = set l.executed place true }) view)

  -- a letter is copied to the place
  pub lists-copied : (letter clean : Letter)
      → ◌≡◌ {A = SiteLists} (lists_in (set sites place (record {
        letter = letter;
        clean = clean;
        executed = site.executed;
        copied = true;
      })) room) (with_copy lists place letter clean)
  lists-copied letter clean =
      lists-set sites place _ room
      ∙ rw (unchanged (λ (s : Site). s.executed))
      (ap (λ (l : SiteLists). with_copy l place letter clean) view)

-- one thing of sites that are appended
appended : {A : Type 0} (f : Site → A) (sites : List Site) (site : Site) (count : ℕ)
    → map f (sites ++ replicate count site) ≡ map f sites ++ replicate count (f site)
appended f sites site count = map-append f sites (replicate count site)
    ∙ ap (λ l. map f sites ++ l) (go count) where
      go : (n : ℕ) → map f (replicate n site) ≡ replicate n (f site)
      go zero = refl
      go (suc n) = ap (λ l. f site ∷ l) (go n)

-- places are appended
pub lists-longer : (sites longer : List Site) (count room : ℕ)
    → longer ≡ sites ++ replicate count (fresh_site NopA)
    → ◌≡◌ {A = SiteLists} (lists_in longer room) (with_places (lists_in sites room) count)
lists-longer sites longer count room made = rw made (simp appended)

-- one site more, of which a list says one thing
pub pushed : {A : Type 0} (f : Site → A) (sites : List Site) (site : Site) (xs : List A) (at : ℕ)
    (d : A) → at < length xs → map f sites ≡ take at xs → f site ≡ get_or xs at d
    → map f (sites ++ site ∷ []) ≡ take (at + 1) xs
pushed f sites site xs at d within so_far here =
    rw (map_push, so_far, here, take_more xs at d within)

-- sites of which four lists say all
pub lists-whole : (sites : List Site) (letters clean : List Letter) (executed copied : List Bool)
    (at room : ℕ) → letters_of sites ≡ take at letters → clean_of sites ≡ take at clean
    → executed_of sites ≡ take at executed → copied_of sites ≡ take at copied → length letters ≤ at
    → length clean ≤ at → length executed ≤ at → length copied ≤ at
    → ◌≡◌ {A = SiteLists} (lists_in sites room) (record {
      letters = letters;
      clean = clean;
      executed = executed;
      copied = copied;
      room = room;
    })
lists-whole sites letters clean executed copied at room l c e p l-all c-all e-all p-all =
    rw (
      l ∙ take_all at letters l-all,
      c ∙ take_all at clean c-all,
      e ∙ take_all at executed e-all,
      p ∙ take_all at copied p-all,
    )

-- one thing of the sites from one place up to another
pub part : {A : Type 0} (f : Site → A) (shown sites : List Site) (seen : List A) (from count : ℕ)
    → shown ≡ sites → map f sites ≡ seen
    → map f (take count (drop from shown)) ≡ take count (drop from seen)
part f shown sites seen from count is view =
    rw (is, ← view, drop-map, take-map)

-- sites that pass a test are counted by what the test gives of each
pub counted : (f : Site → Bool) (sites : List Site) → count_by f sites ≡ count_of (map f sites)
counted f [] = refl
counted f (site ∷ sites) = sum_by-cons (λ s. cond (f s) 1 0) site sites
    ∙ ap (λ n. cond (f site) 1 0 + n) (counted f sites)
    ∙ sym (sum_by-cons (λ b. cond b 1 0) (f site) (map f sites))
