-- Leftmost innermost reduction: the next step of a term.
use Rattle.std.specs.Prelude.{ℕ, suc, ◌==◌, cond, List, [], ◌∷◌, Option, Some, None}
use Rattle.std.specs.Option.{option_map, option_or}
use Rattle.lp_terms.specs.Term.{Lp, opened, closed}
use Rattle.lp_terms.specs.Signature.{Entry}
use Rattle.lp_terms.specs.Reduction.{instance_at}
use Rattle.lp_terms.specs.Same.{same}
use Rattle.lp_reduce.specs.Put.{put}

-- the part of the term where the variable i first stands in the pattern
abbrev pub part_at : ℕ → Lp → Lp → Option Lp
part_at i (Lp.index j) t = cond (j == i) (Some t) None
part_at i (Lp.app p q) (Lp.app f a) = option_or (part_at i p f) (part_at i q a)
part_at i _ _ = None

abbrev pub with_first : Option Lp → Option (List Lp) → Option (List Lp)
with_first (Some u) (Some us) = Some (u ∷ us)
with_first _ _ = None

-- the parts for a context's variables, from the variable i on
abbrev pub parts : List Lp → ℕ → Lp → Lp → Option (List Lp)
parts [] i left t = Some []
parts (type ∷ context) i left t = with_first (part_at i left t) (parts context (suc i) left t)

-- the right side with the parts for its variables, where the left side with the parts for its variables is the term
abbrev pub rule_at : Lp → Lp → Lp → Option (List Lp) → Option Lp
rule_at left right t None = None
rule_at left right t (Some us) = cond (same (put 0 us left) t) (Some (put 0 us right)) None

-- an entry's reduction of the term itself; a definition is a rule without variables
abbrev pub entry_step : Entry → Lp → Option Lp
entry_step (Entry.declare name definable type) t = None
entry_step (Entry.rule context left right) t = rule_at left right t (parts context 0 left t)
entry_step (Entry.define name type body) t = cond (same (Lp.const name) t) (Some body) None

-- that of the first entry which has one
abbrev pub first_entry_step : List Entry → Lp → Option Lp
first_entry_step [] t = None
first_entry_step (e ∷ entries) t = option_or (entry_step e t) (first_entry_step entries t)

-- the beta step of the term itself
abbrev pub beta_step : Lp → Option Lp
beta_step (Lp.app (Lp.abs a t) u) = Some (opened t u)
beta_step _ = None

-- the reduction of the term itself: beta before rules, rules in the order of the entries
abbrev pub root_step : List Entry → Lp → Option Lp
root_step sigma t = option_or (beta_step t) (first_entry_step sigma t)

-- The next step: in the first part that has one, else of the term itself. The term's indices stand for us, and the
-- variable of the next binder is free and has the number n.
abbrev pub next_step : List Entry → ℕ → List Lp → Lp → Option Lp
next_step sigma n us Lp.sort = None
next_step sigma n us (Lp.const name) = root_step sigma (Lp.const name)
next_step sigma n us (Lp.free m) = None
next_step sigma n us (Lp.index i) = None
next_step sigma n us (Lp.app f a) =
    option_or (option_map (λ g. Lp.app g (instance_at 0 us a)) (next_step sigma n us f))
    (option_or (option_map (λ b. Lp.app (instance_at 0 us f) b) (next_step sigma n us a))
    (root_step sigma (Lp.app (instance_at 0 us f) (instance_at 0 us a))))
next_step sigma n us (Lp.abs a t) =
    option_or (option_map (λ b. Lp.abs b (instance_at 1 us t)) (next_step sigma n us a))
    (option_map (λ u. Lp.abs (instance_at 0 us a) (closed n u)) (next_step sigma (suc n) (Lp.free n ∷ us) t))
next_step sigma n us (Lp.prod a t) =
    option_or (option_map (λ b. Lp.prod b (instance_at 1 us t)) (next_step sigma n us a))
    (option_map (λ u. Lp.prod (instance_at 0 us a) (closed n u)) (next_step sigma (suc n) (Lp.free n ∷ us) t))
