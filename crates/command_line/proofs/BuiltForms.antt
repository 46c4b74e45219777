-- What the parser makes of the command of a form.
use Rattle.std.proofs.Common.{◌≡◌, ◌∙◌, ◌+◌, ◌≤◌, arith, refl, ap, ℕ, min, List, [], ◌∷◌, ◌++◌, map, length, Option, Some, None}
use Rattle.command_line.proofs.Prelude.{usize_max, Rule, Text, built, filled, filled_from, Form, IsSimple, Valued, app_by, flag_rule, option_rule, positional_rule}
use Rattle.command_line.proofs.Uses.{flag_filled}
use Rattle.command_line.proofs.FormRules.{option_filled, positional_filled, positionals_from, rules_by}
use Rattle.command_line.proofs.RuleReading.{shape_by}

-- an option's rule as the parser fills it in, with its default or without
filled_option : (name : Text) (default : Option Text)
    → filled (option_rule (record { name = name; default = default }))
    ≡ option_filled (record { name = name; default = default })
filled_option name None = refl
filled_option name (Some value) = refl

-- so with each option; the rules behind them are numbered as if no option stood before
filled_options : (options : List Valued) (rest : List Rule) (i : ℕ)
    → filled_from i (map option_rule options ++ rest) ≡ map option_filled options
    ++ filled_from i rest
filled_options [] rest i = refl
filled_options (o ∷ os) rest i =
    ap (λ rule. rule ∷ filled_from i (map option_rule os ++ rest)) (filled_option o.name o.default)
    ∙ ap (λ rules. option_filled o ∷ rules) (filled_options os rest i)

-- each flag's rule is filled in, and the rules behind are numbered as if no flag stood before
filled_flags : (flags : List Text) (rest : List Rule) (i : ℕ)
    → filled_from i (map flag_rule flags ++ rest) ≡ map flag_filled flags ++ filled_from i rest
filled_flags [] rest i = refl
filled_flags (f ∷ fs) rest i = ap (λ rules. flag_filled f ∷ rules) (filled_flags fs rest i)

-- the positionals are numbered one after another from i, as long as the numbers fit in a usize
filled_positionals : (ids : List Text) (i : ℕ) → i + length ids ≤ usize_max
    → filled_from i (map positional_rule ids) ≡ positionals_from i ids
filled_positionals [] i few = refl
filled_positionals (id ∷ ids) i few =
    let next : min (i + 1) usize_max ≡ i + 1 = omega arith in
    rw next (ap (λ rules. positional_filled i id ∷ rules)
    (filled_positionals ids (i + 1) (omega arith)))

-- the command of a simple form, once it is built: the rules of the form, and no subcommands
pub built_is : (command : Text) (form : Form) (ids : List Text) → IsSimple form ids
    → built (app_by command form ids)
    ≡ record { top = shape_by command (rules_by form ids); subs = [] }
built_is command form ids simple =
    let few = simple.few in
    let rules : filled_from 1
    (map option_rule form.options ++ (map flag_rule form.flags ++ map positional_rule ids))
    ≡ rules_by form ids =
    filled_options form.options (map flag_rule form.flags ++ map positional_rule ids) 1
    ∙ ap (λ rest. map option_filled form.options ++ rest)
    (filled_flags form.flags (map positional_rule ids) 1
    ∙ ap (λ rest. map flag_filled form.flags ++ rest) (filled_positionals ids 1 (omega arith))) in
    ap (λ rs. record { top = shape_by command rs; subs = [] }) rules
