-- Entries put at the end of a list one by one.
use Rattle.std.proofs.Common.{◌≡◌, OnOk, Result, List, [], ◌∷◌, ◌++◌, append_assoc, ap, ◌∙◌, subst}
use Rattle.lp_terms.specs.Term.{Lp}
use Rattle.lp_terms.specs.Signature.{Entry}

-- a rule, by what its parts are
pub added_rule : {A E : Type 0} (r : Result A E) (before after : List Entry) {cs ds : List Lp} {l m s t : Lp} → cs ≡ ds → l ≡ m → s ≡ t
    → OnOk r (after ≡ before ++ Entry.rule cs l s ∷ []) → OnOk r (after ≡ before ++ Entry.rule ds m t ∷ [])
added_rule r before after {cs} {ds} {l} {m} {s} {t} p q u h =
    subst (λ x. OnOk r (after ≡ before ++ Entry.rule ds m x ∷ [])) u
    (subst (λ x. OnOk r (after ≡ before ++ Entry.rule ds x s ∷ [])) q (subst (λ x. OnOk r (after ≡ before ++ Entry.rule x l s ∷ [])) p h))

-- one entry, and what follows it
joined : (xs ys : List Entry) (e : Entry) (more : List Entry) → ys ≡ xs ++ e ∷ [] → ys ++ more ≡ xs ++ e ∷ more
joined xs ys e more p = ap (λ l. l ++ more) p ∙ append_assoc xs (e ∷ []) more

-- four entries
pub added_four : {A E : Type 0} (r : Result A E) (one two three four five : List Entry) (d e f g : Entry) → two ≡ one ++ d ∷ [] → three ≡ two ++ e ∷ [] → four ≡ three ++ f ∷ []
    → OnOk r (five ≡ four ++ g ∷ []) → OnOk r (five ≡ one ++ d ∷ e ∷ f ∷ g ∷ [])
added_four r one two three four five d e f g p q u h =
    subst (λ l. OnOk r (five ≡ l)) (joined three four f (g ∷ []) u ∙ joined two three e (f ∷ g ∷ []) q ∙ joined one two d (e ∷ f ∷ g ∷ []) p) h
