-- What letters read one by one say of a genome.
use Rattle.std.proofs.Common.{◌≡◌, ℕ, Bool, true, false, cond, List, length, Option, Some, None, refl, sym, ap, ◌∙◌}
use Rattle.std.specs.Prelude.{option_and_then}
use Rattle.log_lines.proofs.Prelude.{Letter, letter_of_byte, is_genome_length, given, each, genome_of_word}
use Rattle.log_lines.proofs.FieldLaws.{letters_law}
use Rattle.log_lines.proofs.ListLaws.{each_length}

-- nothing is given either way
nothing : (b : Bool) → ◌≡◌ {A = Option (List Letter)} (cond b None None) None
nothing true = refl
nothing false = refl

-- letters of a known length are a genome, or not, by this length
by_length : (n : ℕ) (o : Option (List Letter)) → ((ls : List Letter) → o ≡ Some ls → length ls ≡ n)
    → cond (is_genome_length n) o None
    ≡ option_and_then (λ ls. given (is_genome_length (length ls)) ls) o
by_length n None long = nothing (is_genome_length n)
by_length n (Some ls) long = rw (long ls refl) refl

-- the letters of a word are a genome, or not, by the word's length
genome_by_length : (word : List ℕ)
    → cond (is_genome_length (length word)) (each letter_of_byte word) None ≡ genome_of_word word
unfolding genome_of_word
genome_by_length word =
    by_length (length word) (each letter_of_byte word)
    (λ ls is. each_length letter_of_byte word ls is)

-- a word of a genome's length is a genome where each byte is a letter
pub genome_each : (word : List ℕ) → is_genome_length (length word) ≡ true
    → each letter_of_byte word ≡ genome_of_word word
genome_each word fits = rw fits at (genome_by_length word)

-- a word of another length is no genome
pub genome_other : (word : List ℕ) → is_genome_length (length word) ≡ false
    → None ≡ genome_of_word word
genome_other word bad = rw bad at (genome_by_length word)

-- letters that were read as a genome have its length
pub genome_given : (word : List ℕ) (ls : List Letter) → Some ls ≡ genome_of_word word
    → cond (is_genome_length (length ls)) (Some ls) None ≡ genome_of_word word
genome_given word ls is =
    ap (λ (b : Bool). cond b (Some ls) None) (letters_law.takes word ls (sym is)).1 ∙ is
