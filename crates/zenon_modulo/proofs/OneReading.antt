-- Words are one command at most, or one thing is the first that is wrong with them; and a text spells one problem at most.
use Rattle.std.proofs.Common.{ℕ, ◌≡◌, false, List, map, length, slice_get, Option, Some, None, Result, Err, refl, sym, ap, ap₂, subst, ◌∙◌, arith}
use Rattle.std.proofs.lemmas.Option.{same_Some}
use Rattle.zm_base.specs.Library.{NamedFile}
use Rattle.zm_logic.specs.Tree.{Problem}
use Rattle.tptp_include.specs.Gathering.{Placed, Refusal, Outcome, GathersAll}
use Rattle.tptp_reader.specs.Raw.{RawStatement}
use Rattle.tff_typing.specs.Rules.{MakeProblem}
use Rattle.tff_typing.specs.Statements as typing
use Rattle.tff_typing.specs.Statements.{problem_in}
use Rattle.zenon_modulo.specs.Fragments.{is_built}
use Rattle.zenon_modulo.specs.Answer.{Untyped, Explanation}
use Rattle.zenon_modulo.specs.Words.{Word, Operand, Command, Misuse, IsOperand, AllowsSteps, IsCommand, IsMisuse, steps_text}
use Rattle.zenon_modulo.specs.Input.{Name, name_of, IsGatheredFrom, Makes, IsText, Spells, HasTooMany, IsFirstUntyped, Explains}

one_operand : (word : Word) (a b : Operand) → IsOperand word a → IsOperand word b → a ≡ b
one_operand word a b IsOperand.hyphen IsOperand.hyphen = refl
one_operand word a b IsOperand.hyphen (IsOperand.name n) = absurd (n refl)
one_operand word a b (IsOperand.name n) IsOperand.hyphen = absurd (n refl)
one_operand word a b (IsOperand.name n) (IsOperand.name m) = refl

one_allowance : (text : Option Word) (m n : ℕ) → AllowsSteps text m → AllowsSteps text n → m ≡ n
one_allowance None m n a b = a ∙ sym b
one_allowance (Some text) m n a b = sym a.0.value ∙ b.0.value

command_same : (o p : Operand) (m n : ℕ) → o ≡ p → m ≡ n → Command.prove o m ≡ Command.prove p n
command_same o p m n e f = ap₂ Command.prove e f

pub one_command : (words : List Word) (c d : Command) → IsCommand words c → IsCommand words d → c ≡ d
one_command words c d (IsCommand.prove {word = word} {options = options} {operand = operand} {steps = steps} o a) (IsCommand.prove {operand = other} {steps = more} p b) =
    command_same operand other steps more (one_operand word operand other o p) (one_allowance (steps_text options) steps more a.steps_allowed b.steps_allowed)

pub no_misuse : (words : List Word) (c : Command) (m : Misuse) → IsCommand words c → IsMisuse words m → ⊥
no_misuse words c m (IsCommand.prove o a) (IsMisuse.unknown_mode n) = n refl
no_misuse words c m (IsCommand.prove {operand = operand} o a) (IsMisuse.bad_operand n) = n operand o
no_misuse words c m (IsCommand.prove {steps = steps} o a) (IsMisuse.bad_options p n) = n steps a

pub one_misuse : (words : List Word) (m n : Misuse) → IsMisuse words m → IsMisuse words n → m ≡ n
one_misuse words m n IsMisuse.no_mode IsMisuse.no_mode = refl
one_misuse words m n (IsMisuse.unknown_mode a) (IsMisuse.unknown_mode b) = refl
one_misuse words m n (IsMisuse.unknown_mode a) IsMisuse.no_operand = absurd (a refl)
one_misuse words m n (IsMisuse.unknown_mode a) (IsMisuse.bad_operand b) = absurd (a refl)
one_misuse words m n (IsMisuse.unknown_mode a) (IsMisuse.bad_options p b) = absurd (a refl)
one_misuse words m n IsMisuse.no_operand (IsMisuse.unknown_mode b) = absurd (b refl)
one_misuse words m n IsMisuse.no_operand IsMisuse.no_operand = refl
one_misuse words m n (IsMisuse.bad_operand a) (IsMisuse.unknown_mode b) = absurd (b refl)
one_misuse words m n (IsMisuse.bad_operand a) (IsMisuse.bad_operand b) = refl
one_misuse words m n (IsMisuse.bad_operand a) (IsMisuse.bad_options {operand = operand} p b) = absurd (a operand p)
one_misuse words m n (IsMisuse.bad_options q a) (IsMisuse.unknown_mode b) = absurd (b refl)
one_misuse words m n (IsMisuse.bad_options {operand = operand} q a) (IsMisuse.bad_operand b) = absurd (b operand q)
one_misuse words m n (IsMisuse.bad_options q a) (IsMisuse.bad_options p b) = refl

-- one outcome for each text, and one problem for its statements, give one problem
module _ (one : (files : List NamedFile) (name : Name) (bytes : List ℕ) (a b : Outcome) → GathersAll files name bytes a → GathersAll files name bytes b → a ≡ b)
    (typed : (statements : List RawStatement) (p q : Problem) → MakeProblem statements p → MakeProblem statements q → p ≡ q) where
  same_list : (l m : List Placed) (i j : ℕ) → Outcome.gathered l i ≡ Outcome.gathered m j → l ≡ m
  same_list l m i j e = cc

  one_made : (files : List NamedFile) (name : Name) (bytes : List ℕ) (p q : Problem) → Makes files name bytes p → Makes files name bytes q → p ≡ q
  one_made files name bytes p q m n =
      let lists = same_list m.list n.list m.gathered.count n.gathered.count (one files name bytes _ _ m.gathered.gathered n.gathered.gathered) in
      typed (map (λ s. s.statement) n.list) p q (subst (λ (l : List Placed). MakeProblem (map (λ s. s.statement) l) p) lists m.typed) n.typed

  pub one_text : (text : Option (List ℕ)) (a b : List ℕ) → IsText text a → IsText text b → a ≡ b
  one_text text a b s t = same_Some a b (sym s.is_there ∙ t.is_there)

  pub one_problem : (operand : Operand) (files : List NamedFile) (text : Option (List ℕ)) (p q : Problem) → Spells operand files text p → Spells operand files text q → p ≡ q
  one_problem operand files text p q s t =
      let bytes = same_Some s.bytes t.bytes (sym s.is_text.is_there ∙ t.is_text.is_there) in
      one_made files (name_of operand) t.bytes p q (subst (λ b. Makes files (name_of operand) b p) bytes s.makes) t.makes

  -- what the outcome of gathering a text is
  one_outcome : (files : List NamedFile) (name : Name) (text : Option (List ℕ)) (a b : List ℕ) (o u : Outcome) → IsText text a → IsText text b
      → GathersAll files name a o → GathersAll files name b u → o ≡ u
  one_outcome files name text a b o u s t g h =
      one files name b o u (subst (λ x. GathersAll files name x o) (one_text text a b s t) g) h

  apart : (l : List Placed) (n : ℕ) (r : Refusal) → Outcome.gathered l n ≡ Outcome.refused r → ⊥
  apart l n r e = cc

  same_refusal : (q r : Refusal) → Outcome.refused q ≡ Outcome.refused r → q ≡ r
  same_refusal q r e = cc

  not_both : (text : Option (List ℕ)) (bytes : List ℕ) → IsText text bytes → HasTooMany text → ⊥
  not_both text bytes t m = let e = ap length (same_Some bytes m.bytes (sym t.is_there ∙ m.is_there)) in omega (arith, t.within, m.over)

  no_text : (text : Option (List ℕ)) (bytes : List ℕ) → text ≡ Some bytes → text ≡ None → ⊥
  no_text text bytes s n = some_none bytes (sym s ∙ n)
    where
      some_none : (bytes : List ℕ) → Some bytes ≡ None → ⊥
      some_none bytes e = cc

  module _ (never : (statements : List RawStatement) (p : Problem) (r : typing.Refusal) → MakeProblem statements p → problem_in statements ≡ Err r → ⊥) where
    -- statements that were gathered from the same text
    one_list : (files : List NamedFile) (name : Name) (text : Option (List ℕ)) (a b : List ℕ) (l m : List Placed) → IsText text a → IsText text b
        → IsGatheredFrom files name a l → IsGatheredFrom files name b m → l ≡ m
    one_list files name text a b l m s t g h =
        same_list l m g.count h.count (one_outcome files name text a b _ _ s t g.gathered h.gathered)

    never_untyped : (operand : Operand) (files : List NamedFile) (text : Option (List ℕ)) (p : Problem) (b : List ℕ) (l : List Placed) (u : Untyped)
        → Spells operand files text p → IsText text b → IsGatheredFrom files (name_of operand) b l → IsFirstUntyped l u → ⊥
    never_untyped operand files text p b l u s t g f =
        let e = one_list files (name_of operand) text s.bytes b s.makes.list l s.is_text t s.makes.gathered g in
        never (map (λ x. x.statement) l) p f.refusal (subst (λ (k : List Placed). MakeProblem (map (λ x. x.statement) k) p) e s.makes.typed) f.found

    never_ungathered : (operand : Operand) (files : List NamedFile) (text : Option (List ℕ)) (a b : List ℕ) (l : List Placed) (r : Refusal)
        → IsText text a → IsGatheredFrom files (name_of operand) a l → IsText text b → GathersAll files (name_of operand) b (Outcome.refused r) → ⊥
    never_ungathered operand files text a b l r s g t h =
        apart l g.count r (one_outcome files (name_of operand) text a b _ _ s t g.gathered h)

    pub accepted : (operand : Operand) (files : List NamedFile) (text : Option (List ℕ)) (p : Problem) (e : Explanation)
        → Spells operand files text p → Explains operand files text e → (e ≡ Explanation.not_built) × (is_built p ≡ false)
    accepted operand files text p e s (Explains.absent o n) = absurd (no_text text s.bytes s.is_text.is_there n)
    accepted operand files text p e s (Explains.too_large m) = absurd (not_both text s.bytes s.is_text m)
    accepted operand files text p e s (Explains.ungathered {bytes = b} {r = r} t g) =
        absurd (never_ungathered operand files text s.bytes b s.makes.list r s.is_text s.makes.gathered t g)
    accepted operand files text p e s (Explains.untyped {bytes = b} {list = l} {u = u} t g f) =
        absurd (never_untyped operand files text p b l u s t g f)
    accepted operand files text p e s (Explains.not_built {p = q} t n) =
        (refl, subst (λ x. is_built x ≡ false) (one_problem operand files text q p t s) n)

    same_untyped : (l : List Placed) (u v : Untyped) → IsFirstUntyped l u → IsFirstUntyped l v → u ≡ v
    same_untyped l u v f g =
        let r = same_Err f.refusal g.refusal (problem_in (map (λ s. s.statement) l)) f.found g.found in
        let p = same_Some f.placed g.placed (sym f.stands ∙ ap (λ x. slice_get l x.statement) r ∙ g.stands) in
        f.told ∙ ap₂ (λ x y. record { file = x.file; at = x.at; fault = y.fault; symbols = y.symbols }) p r ∙ sym g.told
      where
        same_Err : (q r : typing.Refusal) (x : Result Problem typing.Refusal) → x ≡ Err q → x ≡ Err r → q ≡ r
        same_Err q r x a b = cc

    not_built_alone : (operand : Operand) (files : List NamedFile) (text : Option (List ℕ)) (p : Problem) (e : Explanation)
        → Spells operand files text p → Explains operand files text e → Explanation.not_built ≡ e
    not_built_alone operand files text p e s x = sym (accepted operand files text p e s x).0

    pub one_explanation : (operand : Operand) (files : List NamedFile) (text : Option (List ℕ)) (d e : Explanation)
        → Explains operand files text d → Explains operand files text e → d ≡ e
    one_explanation operand files text d e (Explains.absent {name = m} o n) (Explains.absent {name = k} q u) =
        ap (λ x. Explanation.ungathered (Refusal.missing x)) (same_name m k (sym o ∙ q))
      where
        same_name : (m k : Name) → Operand.file m ≡ Operand.file k → m ≡ k
        same_name m k e = cc
    one_explanation operand files text d e (Explains.absent o n) (Explains.too_large m) = absurd (no_text text m.bytes m.is_there n)
    one_explanation operand files text d e (Explains.absent o n) (Explains.ungathered {bytes = b} t g) = absurd (no_text text b t.is_there n)
    one_explanation operand files text d e (Explains.absent o n) (Explains.untyped {bytes = b} t g f) = absurd (no_text text b t.is_there n)
    one_explanation operand files text d e (Explains.absent o n) (Explains.not_built s x) = absurd (no_text text s.bytes s.is_text.is_there n)
    one_explanation operand files text d e (Explains.too_large m) (Explains.absent o n) = absurd (no_text text m.bytes m.is_there n)
    one_explanation operand files text d e (Explains.too_large m) (Explains.too_large k) = refl
    one_explanation operand files text d e (Explains.too_large m) (Explains.ungathered {bytes = b} t g) = absurd (not_both text b t m)
    one_explanation operand files text d e (Explains.too_large m) (Explains.untyped {bytes = b} t g f) = absurd (not_both text b t m)
    one_explanation operand files text d e (Explains.too_large m) (Explains.not_built s x) = absurd (not_both text s.bytes s.is_text m)
    one_explanation operand files text d e (Explains.ungathered {bytes = b} t g) (Explains.absent o n) = absurd (no_text text b t.is_there n)
    one_explanation operand files text d e (Explains.ungathered {bytes = b} t g) (Explains.too_large m) = absurd (not_both text b t m)
    one_explanation operand files text d e (Explains.ungathered {bytes = a} {r = q} t g) (Explains.ungathered {bytes = b} {r = r} u h) =
        ap Explanation.ungathered (same_refusal q r (one_outcome files (name_of operand) text a b _ _ t u g h))
    one_explanation operand files text d e (Explains.ungathered {bytes = a} {r = r} t g) (Explains.untyped {bytes = b} {list = l} u h f) =
        absurd (never_ungathered operand files text b a l r u h t g)
    one_explanation operand files text d e (Explains.ungathered {bytes = a} {r = r} t g) (Explains.not_built s x) =
        absurd (never_ungathered operand files text s.bytes a s.makes.list r s.is_text s.makes.gathered t g)
    one_explanation operand files text d e (Explains.untyped {bytes = b} t g f) (Explains.absent o n) = absurd (no_text text b t.is_there n)
    one_explanation operand files text d e (Explains.untyped {bytes = b} t g f) (Explains.too_large m) = absurd (not_both text b t m)
    one_explanation operand files text d e (Explains.untyped {bytes = b} {list = l} u h f) (Explains.ungathered {bytes = a} {r = r} t g) =
        absurd (never_ungathered operand files text b a l r u h t g)
    one_explanation operand files text d e (Explains.untyped {bytes = a} {list = l} {u = u} t g f) (Explains.untyped {bytes = b} {list = m} {u = v} s h k) =
        ap Explanation.untyped (same_untyped m u v (subst (λ x. IsFirstUntyped x u) (one_list files (name_of operand) text a b l m t s g h) f) k)
    one_explanation operand files text d e (Explains.untyped {bytes = b} {list = l} {u = u} t g f) (Explains.not_built {p = p} s x) =
        absurd (never_untyped operand files text p b l u s t g f)
    one_explanation operand files text d e (Explains.not_built {p = p} s x) y = not_built_alone operand files text p e s y
