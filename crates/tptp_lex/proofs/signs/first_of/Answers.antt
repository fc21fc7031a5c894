use Rattle.std.proofs.Common.{◌≡◌, ℕ, ◌+◌, ◌<◌, suc, Bool, true, false, cond, List, length, drop, get_or, sym, ◌∙◌, ap, arith, add-one, Some, drop-cons}
use Rattle.std.specs.List.{find, starts_with}
use Rattle.std.specs.Prelude.{◌==◌}
use Rattle.tptp_lex.specs.declared.signs.Sign.{Sign}
use Rattle.tptp_lex.specs.Signs.{spelling, begins}
use Rattle.tptp_lex.proofs.signs.first_of.Goals as goal

find_here : (p : Sign → Bool) (xs : List Sign) (i : ℕ) (d : Sign) → i < length xs → p (get_or xs i d) ≡ true → find p (drop i xs) ≡ Some (get_or xs i d)
find_here p xs i d lt h = ap (find p) (drop-cons xs i d lt) ∙ ap (λ t. cond t (Some (get_or xs i d)) (find p (drop (suc i) xs))) h

find_next : (p : Sign → Bool) (xs : List Sign) (i : ℕ) (d : Sign) → i < length xs → p (get_or xs i d) ≡ false → find p (drop (i + 1) xs) ≡ find p (drop i xs)
find_next p xs i d lt h = ap (λ n. find p (drop n xs)) (add-one i) ∙ sym (ap (find p) (drop-cons xs i d lt) ∙ ap (λ t. cond t (Some (get_or xs i d)) (find p (drop (suc i) xs))) h)

same_test : (bytes text : List ℕ) (s : Sign) (b c : Bool) → text ≡ spelling s → b ≡ starts_with (λ x y. x == y) bytes text → b ≡ c → begins bytes s ≡ c
same_test bytes text s b c e f g = ap (starts_with (λ x y. x == y) bytes) (sym e) ∙ sym f ∙ g

pub returns-then-starts_with-clause-value : goal.returns-then-starts_with-clause-value
returns-then-starts_with-clause-value c =
    sym (find_here (begins c.args.bytes.now) c.args.signs.now c.loop-sign.sign-index _ (omega arith) (same_test c.args.bytes.now _ _ _ _ c.text.ensures c.starts_with.ensures.value c.if-starts_with.true)) ∙ c.loop-sign.invariant

pub loop-sign-preserved : goal.loop-sign-preserved
loop-sign-preserved c =
    find_next (begins c.args.bytes.now) c.args.signs.now c.loop-sign.sign-index _ (omega arith) (same_test c.args.bytes.now _ _ _ _ c.text.ensures c.starts_with.ensures.value c.if-starts_with.false) ∙ c.loop-sign.invariant
