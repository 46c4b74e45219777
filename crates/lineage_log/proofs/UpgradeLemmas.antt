-- A good log with version 2 in its first line is a good log: version 2 has all that version 1 has.
use Rattle.std.proofs.Common.{◌≡◌, ℕ, List, [], ◌∷◌, Ok, arith}
use Rattle.lineage_log.proofs.Prelude.{Letter, Line, Start, Death, Birth, Injected, Cleared, Rate, Count, End, HasForm, Reader, LogPlace, Before, Within, After, told_start, told_death, told_birth, told_injected, told_cleared, told_rate, told_count, told_end, told, told_all, IsWhole, IsGoodLog, newer, upgraded}
use Rattle.lineage_log.proofs.LogLaws.{went_on, whole_is}

-- a reader of the last version
abbrev up_reader : Reader → Reader
up_reader r = record r { version = 2 }

-- a place with such a reader
abbrev up : LogPlace → LogPlace
up Before = Before
up (Within r) = Within (up_reader r)
up (After r) = After (up_reader r)

-- each line within a log leads to the same place in the last version
told_still : (r : Reader) (line : Line) (q : LogPlace) → told (Within r) line ≡ Ok q
    → told (Within (up_reader r)) line ≡ Ok (up q)
unfolding told_death told_birth told_injected told_cleared told_rate told_count told_end
told_still r (Start version width height cell genome) q is = absurd cc
told_still r (Death id update cell) q is = grind arith
told_still r (Birth id parent update cell over birth) q is = grind arith
told_still r (Injected id update cell over genome) q is = grind arith
told_still r (Cleared id update cell) q is = grind arith
told_still r (Rate update name ppm) q is = grind arith
told_still r (Count s) q is = grind arith
told_still r (End updates) q is = grind arith

-- lines that lead to the end do so in the last version
whole_still : (p : LogPlace) (lines : List Line) → IsWhole (told_all p lines)
    → IsWhole (told_all (up p) lines)
whole_still Before lines w = w
whole_still (Within r) (line ∷ lines) w =
    let end = whole_is (told_all (Within r) (line ∷ lines)) w in
    let step = went_on (told (Within r) line) (λ p. told_all p lines) (After end.0) end.1 in
    rw (told_still r line step.0 step.1) (whole_still step.0 lines (rw step.2 tt))
whole_still (After r) [] w = tt
whole_still _ _ w = absurd w

-- a line that has a form has one with version 2
form_still : (line : Line) → HasForm line → HasForm (newer line)
form_still (Start version width height cell genome) fits =
    ((omega arith, omega arith), fits.1, fits.2, fits.3, fits.4)
form_still _ fits = fits

-- a whole log that begins with a first line is whole with version 2 in it
first_still : (version width height cell : ℕ) (genome : List Letter) (lines : List Line)
    → IsWhole (told_all Before (Start version width height cell genome ∷ lines))
    → IsWhole (told_all Before (Start 2 width height cell genome ∷ lines))
unfolding told_start
first_still version width height cell genome lines w =
    let end = whole_is (told_all Before (Start version width height cell genome ∷ lines)) w in
    let step = went_on (told_start version width height cell genome) (λ p. told_all p lines)
    (After end.0) end.1 in
    let first : told_start 2 width height cell genome ≡ Ok (up step.0) = grind (arith, step.1) in
    rw first (whole_still step.0 lines (rw step.2 tt))

-- a whole log is whole with version 2 in its first line
order_still : (line : Line) (lines : List Line) → IsWhole (told_all Before (line ∷ lines))
    → IsWhole (told_all Before (newer line ∷ lines))
order_still (Start version width height cell genome) lines w =
    first_still version width height cell genome lines w
order_still _ lines w = absurd w

-- a good log with version 2 in its first line is a good log
pub upgraded_good : (lines : List Line) → IsGoodLog lines → IsGoodLog (upgraded lines)
upgraded_good [] good = good
upgraded_good (line ∷ lines) good =
    record {
      forms = (form_still line good.forms.0, good.forms.1);
      order = order_still line lines good.order;
    }
