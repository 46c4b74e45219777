-- The words of a line, part by part.
use Rattle.std.proofs.Common.{◌≡◌, ℕ, ◌<◌, arith, refl, ap, length, List, [], ◌∷◌, ◌++◌, map, append_assoc, append-nil}
use Rattle.std.specs.Prelude.{Result, Ok, Err, OnOk}
use Rattle.saved_lines.proofs.Prelude.{Letter, byte_of, CpuImage, words_text, digit_of, machine_numbers, machine_words, nops_text, signed_words, words_text-append, words_text_more}
use Rattle.log_lines.specs.Line.{decimals}
use Rattle.log_lines.proofs.KeptLemmas.{keeps_front}

-- the words of the four texts
abbrev pub image_texts : CpuImage → List (List ℕ)
image_texts image =
    map byte_of image.memory ∷ map byte_of image.clean ∷ map digit_of image.executed
    ∷ map digit_of image.copied ∷ []

-- registers, numbers, nops with stacks, and the four texts
pub machine_line : (image : CpuImage)
    → words_text (machine_words image)
    ≡ words_text (signed_words image.registers)
    ++ (words_text (decimals (machine_numbers image))
    ++ (words_text (nops_text image.nops
    ∷ (signed_words image.first ++ signed_words image.second))
    ++ words_text (image_texts image)))
machine_line image =
    let registers = signed_words image.registers in
    let numbers = decimals (machine_numbers image) in
    let nops = nops_text image.nops in
    let first = signed_words image.first in
    let second = signed_words image.second in
    let texts = image_texts image in
    rw (
      words_text-append registers (numbers ++ (nops ∷ (first ++ (second ++ texts)))),
      words_text-append numbers (nops ∷ (first ++ (second ++ texts))),
      ← append_assoc first second texts,
    ) (ap (λ (l : List ℕ). words_text registers ++ (words_text numbers ++ l))
    (words_text-append (nops ∷ (first ++ second)) texts))

-- nops that there are
pub nops_text-some : (nops : List Letter) → 0 < length nops → nops_text nops ≡ map byte_of nops
nops_text-some [] some = absurd (omega (arith, some))
nops_text-some (nop ∷ nops) some = refl

pub ruleset fronts_stay = (keeps_front)

pub ruleset nops_spell = (keeps_front, nops_text-some)

pub ruleset words_grow = (keeps_front, words_text_more)

-- ---- lines made step by step

-- numbers and a text
pub organism_made : (old : List ℕ) (numbers : List (List ℕ)) (text : List ℕ)
    → (((old ++ 79 ∷ []) ++ words_text numbers) ++ 32 ∷ text) ++ 10 ∷ []
    ≡ old ++ ((79 ∷ words_text (numbers ++ text ∷ [])) ++ 10 ∷ [])
organism_made old numbers text = simp (words_text-append, append_assoc, append-nil)

-- a word and two lists of words
pub stacks_made : (old word : List ℕ) (first second : List (List ℕ))
    → ((old ++ 32 ∷ word) ++ words_text first) ++ words_text second
    ≡ old ++ words_text (word ∷ (first ++ second))
stacks_made old word first second = simp (words_text-append, append_assoc)

-- four texts in turn
pub four_texts : (old a b c d : List ℕ)
    → (((old ++ a) ++ b) ++ c) ++ d ≡ old ++ (a ++ (b ++ (c ++ d)))
four_texts old a b c d = simp append_assoc

-- what follows on success
pub OnOk_then : {A E : Type 0} (r : Result A E) {P Q : Type 0} → OnOk r P → (P → Q) → OnOk r Q
OnOk_then (Ok a) p f = f p
OnOk_then (Err e) p f = tt
