-- Names, one byte further, and the constant of a number.
use Rattle.std.proofs.Common.{ℕ, zero, suc, ◌≡◌, ◌+◌, ◌<◌, Bool, true, false, cond, Some, None, List, [], ◌∷◌, ◌++◌, length, get_or, take, refl, ap, sym, ◌∙◌, append_assoc, arith, Result, Ok, Err, OnOk}
use Rattle.std.specs.Prelude.{slice_get}
use Rattle.std.proofs.lemmas.List.{take_more}
use Rattle.zm_logic.specs.declared.tree.Ty.{Ty}
use Rattle.zm_logic.specs.declared.problem.Symbol.{Symbol}
use Rattle.zm_logic.specs.Tree as tree
use Rattle.zm_logic.specs.View.{types_tree, symbol_tree}
use Rattle.zm_logic.specs.Typing.{how_many, nth}
use Rattle.lp_signature.specs.Names.{is_plain, coded, symbol_name, name_of, constant}
use Rattle.lp_signature.specs.View.{symbols_tree}
use Rattle.lp_terms.specs.Measure.{limit}
use Rattle.lp_signature.specs.Declarable.{AreBytes, IsDeclarable}

front : (p : Bool) (b x y z : ℕ) (whole bs cs : List ℕ) → whole ≡ bs ++ cs
    → cond p (b ∷ whole) (x ∷ y ∷ z ∷ whole) ≡ cond p (b ∷ bs) (x ∷ y ∷ z ∷ bs) ++ cs
front true b x y z whole bs cs e = ap (◌∷◌ b) e
front false b x y z whole bs cs e = ap (λ l. x ∷ y ∷ z ∷ l) e

pub coded_append : (bs cs : List ℕ) → coded (bs ++ cs) ≡ coded bs ++ coded cs
coded_append [] cs = refl
coded_append (b ∷ bs) cs = front (is_plain b) b _ _ _ _ (coded bs) (coded cs) (coded_append bs cs)

-- what stands for the bytes, one byte further
pub coded_more : (bytes before now after : List ℕ) (i d : ℕ) → i < length bytes → now ≡ before ++ coded (take i bytes)
    → after ≡ now ++ coded (get_or bytes i d ∷ []) → after ≡ before ++ coded (take (i + 1) bytes)
coded_more bytes before now after i d h e g =
    g ∙ ap (λ l. l ++ coded (get_or bytes i d ∷ [])) e ∙ append_assoc before (coded (take i bytes)) (coded (get_or bytes i d ∷ []))
    ∙ ap (λ l. before ++ l) (sym (coded_append (take i bytes) (get_or bytes i d ∷ [])))
    ∙ ap (λ l. before ++ coded l) (sym (take_more bytes i d h))

pub how_many_length : (ts : List Ty) → how_many (types_tree ts) ≡ length ts
how_many_length [] = refl
how_many_length (t ∷ ts) = omega (arith, how_many_length ts)

nth_found : (ss : List Symbol) (i : ℕ) (d : Symbol) → slice_get ss i ≡ Some d → nth (symbols_tree ss) i ≡ Some (symbol_tree d)
nth_found [] i d e = absurd (cc (e))
nth_found (s ∷ ss) zero d e = let x : s ≡ d = cc (e) in ap (λ s. Some (symbol_tree s)) x
nth_found (s ∷ ss) (suc i) d e = nth_found ss i d e

nth_lost : (ss : List Symbol) (i : ℕ) → slice_get ss i ≡ None → nth (symbols_tree ss) i ≡ None
nth_lost [] i e = refl
nth_lost (s ∷ ss) zero e = absurd (cc (e))
nth_lost (s ∷ ss) (suc i) e = nth_lost ss i e

-- the constant of a number that a symbol has, and of one that no symbol has
pub constant_found : (ss : List Symbol) (n i : ℕ) (d : Symbol) → n ≡ suc i → slice_get ss i ≡ Some d
    → constant (symbols_tree ss) n ≡ symbol_name (symbol_tree d)
constant_found ss zero i d e h = absurd (omega (arith, e))
constant_found ss (suc m) i d e h = let x : m ≡ i = omega (arith, e) in ap (λ k. name_of (nth (symbols_tree ss) k)) x ∙ ap name_of (nth_found ss i d h)

pub constant_lost : (ss : List Symbol) (n i : ℕ) → n ≡ suc i → slice_get ss i ≡ None → constant (symbols_tree ss) n ≡ []
constant_lost ss zero i e h = absurd (omega (arith, e))
constant_lost ss (suc m) i e h = let x : m ≡ i = omega (arith, e) in ap (λ k. name_of (nth (symbols_tree ss) k)) x ∙ ap name_of (nth_lost ss i h)

-- what a symbol's constant tells of the symbol
pub declarable : {A E : Type 0} (r : Result A E) (d : tree.Symbol) → AreBytes d.name → d.types + how_many d.arguments < limit → OnOk r (IsDeclarable d)
declarable (Ok x) d b l = record { name = b; arguments = l }
declarable (Err e) d b l = tt
