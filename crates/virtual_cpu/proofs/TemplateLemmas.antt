-- IP on the last nop of a template.
use Rattle.std.proofs.Common.{◌≡◌, ◌≢◌, ◌∙◌, sym, ap, refl, ℕ, ◌+◌, ◌%◌, ◌<◌, List, [], ◌∷◌, Bool, true, length, set, arith}
use Rattle.virtual_cpu.proofs.Prelude.{Letter, Machine, place_after, template_of, on_template, on_last_of}
use Rattle.std.proofs.Math.Nat.{mod-add-mod}

-- a list that is not empty has letters
pub some-nop : (nops : List Letter) → nops ≢ [] → 0 < length nops
some-nop [] not_empty = absurd (not_empty refl)
some-nop (nop ∷ nops) not_empty = omega arith

-- the first nop is marked, and IP is as many places further as there are nops
pub template-moved : (m : Machine) (executed : List Bool) (last count : ℕ)
    → count ≡ length (template_of m) → 0 < count
    → executed ≡ set m.executed (place_after m m.heads.ip) true
    → last ≡ (m.heads.ip + count) % length m.memory
    → ◌≡◌ {A = Machine} (record m { executed = executed; heads = record m.heads { ip = last } })
    (on_template m)
unfolding on_template
template-moved m executed last count many some marked moved = go (template_of m) many where
  -- the same of any list of as many nops: IP is on the last of them
  go : (nops : List Letter) → count ≡ length nops
      → ◌≡◌ {A = Machine} (record m { executed = executed; heads = record m.heads { ip = last } })
      (on_last_of nops m)
  go [] none = absurd (omega arith)
  go (nop ∷ nops) more =
      let here : last ≡ ((m.heads.ip + 1) % length m.memory + length nops) % length m.memory =
      moved ∙ ap (λ k. k % length m.memory) (omega arith)
      ∙ sym (mod-add-mod (m.heads.ip + 1) (length m.memory) (length nops)) in
      rw (marked, here) refl
