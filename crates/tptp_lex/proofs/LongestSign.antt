-- The first sign of the table that fits is the longest.
use Rattle.std.proofs.Common.{◌≡◌, ℕ, ◌≤◌, Bool, true, false, cond, List, [], ◌∷◌, length, Option, Some, None, refl, sym, ◌∙◌, ap, subst, arith, inl, inr, ◌⊎◌}
use Rattle.std.specs.Prelude.{nat_le, ◌&&◌, IfSome}
use Rattle.std.proofs.lemmas.Bool.{leb-true, and_parts, false≢true}
use Rattle.std.specs.List.{find}
use Rattle.std.proofs.lemmas.Option.{same_Some}
use Rattle.tptp_lex.specs.declared.signs.Sign.{Sign}
use Rattle.tptp_lex.specs.declared.signs.Sign.TheVariants.{Open, Close, OpenList, CloseList, Comma, Stop, Colon, And, Or, Not, Implies, If, Iff, Xor, NotAnd, NotOr, Equal, NotEqual, All, Exists, AllTypes, Arrow, Star, At, Caret, Plus, Minus}
use Rattle.tptp_lex.specs.declared.signs.TheConstants.{SIGNS}
use Rattle.tptp_lex.specs.Signs.{spelling, begins, IsLongestSign}

none_some : (s : Sign) → ◌≡◌ {A = Option Sign} None (Some s) → ⊥
none_some s e = cc

IsIn : Sign → List Sign → Type 0
IsIn t [] = ⊥
IsIn t (x ∷ xs) = (t ≡ x) ⊎ IsIn t xs

-- none of them has a longer spelling than n
abbrev none_longer : ℕ → List Sign → Bool
none_longer n [] = true
none_longer n (x ∷ xs) = nat_le (length (spelling x)) n && none_longer n xs

abbrev descends : List Sign → Bool
descends [] = true
descends (x ∷ xs) = none_longer (length (spelling x)) xs && descends xs

no_longer : (n : ℕ) (xs : List Sign) (t : Sign) → none_longer n xs ≡ true → IsIn t xs → length (spelling t) ≤ n
unfolding IsIn
no_longer n [] t h i = absurd i
no_longer n (x ∷ xs) t h (inl e) = subst (λ (u : Sign). length (spelling u) ≤ n) (sym e) (leb-true _ _ (and_parts (nat_le (length (spelling x)) n) (none_longer n xs) h).0)
no_longer n (x ∷ xs) t h (inr i) = no_longer n xs t (and_parts (nat_le (length (spelling x)) n) (none_longer n xs) h).1 i

at_most : (x t : Sign) (xs : List Sign) → none_longer (length (spelling x)) xs ≡ true → IsIn t (x ∷ xs) → length (spelling t) ≤ length (spelling x)
unfolding IsIn
at_most x t xs h (inl e) = subst (λ (u : Sign). length (spelling t) ≤ length (spelling u)) e (omega arith)
at_most x t xs h (inr i) = no_longer (length (spelling x)) xs t h i

record Longest (p : Sign → Bool) (xs : List Sign) (s : Sign) : Type 0 where
  fits : p s ≡ true
  others : (t : Sign) → IsIn t xs → p t ≡ true → length (spelling t) ≤ length (spelling s)

later : (p : Sign → Bool) (x s : Sign) (xs : List Sign) → p x ≡ false → Longest p xs s → (t : Sign) → IsIn t (x ∷ xs) → p t ≡ true → length (spelling t) ≤ length (spelling s)
unfolding IsIn
later p x s xs is l t (inl e) h = absurd (false≢true (sym is ∙ ap p (sym e) ∙ h))
later p x s xs is l t (inr i) h = l.others t i h

step : (p : Sign → Bool) (x s : Sign) (xs : List Sign) (b : Bool) → p x ≡ b → none_longer (length (spelling x)) xs ≡ true → (find p xs ≡ Some s → Longest p xs s) → cond b (Some x) (find p xs) ≡ Some s → Longest p (x ∷ xs) s
step p x s xs true is d next found =
    let same : x ≡ s = cc in
    record { fits = ap p (sym same) ∙ is; others = λ t i h. subst (λ (u : Sign). length (spelling t) ≤ length (spelling u)) same (at_most x t xs d i) }
step p x s xs false is d next found = record { fits = (next found).fits; others = later p x s xs is (next found) }

first_longest : (p : Sign → Bool) (xs : List Sign) (s : Sign) → descends xs ≡ true → find p xs ≡ Some s → Longest p xs s
first_longest p [] s d e = absurd (none_some s e)
first_longest p (x ∷ xs) s d e = let parts = and_parts (none_longer (length (spelling x)) xs) (descends xs) d in step p x s xs (p x) refl parts.0 (first_longest p xs s parts.1) e

each_sign : (t : Sign) → IsIn t SIGNS
unfolding IsIn
each_sign Iff = inl refl
each_sign Xor = inr (inl refl)
each_sign Implies = inr (inr (inl refl))
each_sign If = inr (inr (inr (inl refl)))
each_sign NotAnd = inr (inr (inr (inr (inl refl))))
each_sign NotOr = inr (inr (inr (inr (inr (inl refl)))))
each_sign NotEqual = inr (inr (inr (inr (inr (inr (inl refl))))))
each_sign AllTypes = inr (inr (inr (inr (inr (inr (inr (inl refl)))))))
each_sign Open = inr (inr (inr (inr (inr (inr (inr (inr (inl refl))))))))
each_sign Close = inr (inr (inr (inr (inr (inr (inr (inr (inr (inl refl)))))))))
each_sign OpenList = inr (inr (inr (inr (inr (inr (inr (inr (inr (inr (inl refl))))))))))
each_sign CloseList = inr (inr (inr (inr (inr (inr (inr (inr (inr (inr (inr (inl refl)))))))))))
each_sign Comma = inr (inr (inr (inr (inr (inr (inr (inr (inr (inr (inr (inr (inl refl))))))))))))
each_sign Stop = inr (inr (inr (inr (inr (inr (inr (inr (inr (inr (inr (inr (inr (inl refl)))))))))))))
each_sign Colon = inr (inr (inr (inr (inr (inr (inr (inr (inr (inr (inr (inr (inr (inr (inl refl))))))))))))))
each_sign And = inr (inr (inr (inr (inr (inr (inr (inr (inr (inr (inr (inr (inr (inr (inr (inl refl)))))))))))))))
each_sign Or = inr (inr (inr (inr (inr (inr (inr (inr (inr (inr (inr (inr (inr (inr (inr (inr (inl refl))))))))))))))))
each_sign Not = inr (inr (inr (inr (inr (inr (inr (inr (inr (inr (inr (inr (inr (inr (inr (inr (inr (inl refl)))))))))))))))))
each_sign Equal = inr (inr (inr (inr (inr (inr (inr (inr (inr (inr (inr (inr (inr (inr (inr (inr (inr (inr (inl refl))))))))))))))))))
each_sign All = inr (inr (inr (inr (inr (inr (inr (inr (inr (inr (inr (inr (inr (inr (inr (inr (inr (inr (inr (inl refl)))))))))))))))))))
each_sign Exists = inr (inr (inr (inr (inr (inr (inr (inr (inr (inr (inr (inr (inr (inr (inr (inr (inr (inr (inr (inr (inl refl))))))))))))))))))))
each_sign Arrow = inr (inr (inr (inr (inr (inr (inr (inr (inr (inr (inr (inr (inr (inr (inr (inr (inr (inr (inr (inr (inr (inl refl)))))))))))))))))))))
each_sign Star = inr (inr (inr (inr (inr (inr (inr (inr (inr (inr (inr (inr (inr (inr (inr (inr (inr (inr (inr (inr (inr (inr (inl refl))))))))))))))))))))))
each_sign At = inr (inr (inr (inr (inr (inr (inr (inr (inr (inr (inr (inr (inr (inr (inr (inr (inr (inr (inr (inr (inr (inr (inr (inl refl)))))))))))))))))))))))
each_sign Caret = inr (inr (inr (inr (inr (inr (inr (inr (inr (inr (inr (inr (inr (inr (inr (inr (inr (inr (inr (inr (inr (inr (inr (inr (inl refl))))))))))))))))))))))))
each_sign Plus = inr (inr (inr (inr (inr (inr (inr (inr (inr (inr (inr (inr (inr (inr (inr (inr (inr (inr (inr (inr (inr (inr (inr (inr (inr (inl refl)))))))))))))))))))))))))
each_sign Minus = inr (inr (inr (inr (inr (inr (inr (inr (inr (inr (inr (inr (inr (inr (inr (inr (inr (inr (inr (inr (inr (inr (inr (inr (inr (inr (inl refl))))))))))))))))))))))))))

pub first_is_longest : (bytes : List ℕ) (s : Sign) → find (begins bytes) SIGNS ≡ Some s → IsLongestSign bytes s
first_is_longest bytes s e =
    let l = first_longest (begins bytes) SIGNS s refl e in
    record { begins_with = l.fits; longest = λ t h. l.others t (each_sign t) h }

pub found_is_longest : (bytes : List ℕ) (r : Option Sign) → r ≡ find (begins bytes) SIGNS → IfSome r (IsLongestSign bytes)
found_is_longest bytes None e = tt
found_is_longest bytes (Some s) e = first_is_longest bytes s (sym e)

-- a sign of the table that fits is found
not_first : (p : Sign → Bool) (t x : Sign) (xs : List Sign) (b : Bool) → p x ≡ b → cond b (Some x) (find p xs) ≡ None → (t ≡ x) ⊎ IsIn t xs → p t ≡ true → (find p xs ≡ None → IsIn t xs → p t ≡ true → ⊥) → ⊥
not_first p t x xs true is e i h next = none_some x (sym e)
not_first p t x xs false is e (inl same) h next = false≢true (sym is ∙ ap p (sym same) ∙ h)
not_first p t x xs false is e (inr i) h next = next e i h

missing : (p : Sign → Bool) (t : Sign) (xs : List Sign) → find p xs ≡ None → IsIn t xs → p t ≡ true → ⊥
unfolding IsIn
missing p t [] e i h = absurd i
missing p t (x ∷ xs) e i h = not_first p t x xs (p x) refl e i h (missing p t xs)

pub sign_found : (bytes : List ℕ) (s : Sign) → begins bytes s ≡ true → find (begins bytes) SIGNS ≡ None → ⊥
sign_found bytes s h e = missing (begins bytes) s SIGNS e (each_sign s) h

-- each sign has a byte
abbrev none_empty : List Sign → Bool
none_empty [] = true
none_empty (x ∷ xs) = nat_le 1 (length (spelling x)) && none_empty xs

not_empty : (xs : List Sign) (t : Sign) → none_empty xs ≡ true → IsIn t xs → 1 ≤ length (spelling t)
unfolding IsIn
not_empty [] t h i = absurd i
not_empty (x ∷ xs) t h (inl e) = subst (λ (u : Sign). 1 ≤ length (spelling u)) (sym e) (leb-true _ _ (and_parts (nat_le 1 (length (spelling x))) (none_empty xs) h).0)
not_empty (x ∷ xs) t h (inr i) = not_empty xs t (and_parts (nat_le 1 (length (spelling x))) (none_empty xs) h).1 i

pub has_byte : (s : Sign) → 1 ≤ length (spelling s)
has_byte s = not_empty SIGNS s refl (each_sign s)

-- two signs are spelled in two ways
finds_itself : (s : Sign) → find (begins (spelling s)) SIGNS ≡ Some s
finds_itself Iff = refl
finds_itself Xor = refl
finds_itself Implies = refl
finds_itself If = refl
finds_itself NotAnd = refl
finds_itself NotOr = refl
finds_itself NotEqual = refl
finds_itself AllTypes = refl
finds_itself Open = refl
finds_itself Close = refl
finds_itself OpenList = refl
finds_itself CloseList = refl
finds_itself Comma = refl
finds_itself Stop = refl
finds_itself Colon = refl
finds_itself And = refl
finds_itself Or = refl
finds_itself Not = refl
finds_itself Equal = refl
finds_itself All = refl
finds_itself Exists = refl
finds_itself Arrow = refl
finds_itself Star = refl
finds_itself At = refl
finds_itself Caret = refl
finds_itself Plus = refl
finds_itself Minus = refl

pub same_spelling : (s t : Sign) → spelling s ≡ spelling t → s ≡ t
same_spelling s t e = same_Some s t (sym (finds_itself s) ∙ ap (λ (w : List ℕ). find (begins w) SIGNS) e ∙ finds_itself t)
