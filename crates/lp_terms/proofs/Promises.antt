-- The laws.
use Rattle.std.proofs.Common.{ℕ, suc, ◌≡◌, Bool, true, false, cond, ◌==◌, refl, sym, ap, ap₂, ◌∙◌}
use Rattle.lp_terms.specs.Term.{Lp, opened, open_at, closed, close_at, IsFresh}
use Rattle.lp_terms.specs.Term as lp
use Rattle.lp_terms.specs.Laws.{ClosingUndoesOpening, OpeningClosedSubstitutes, WellFormedHasNoFree, ContextsWeaken, SignaturesWeaken, TypedTermsAreClosed, TypedTermsHoldTheirContext, SubstitutionKeepsTyping, TypesHaveSorts, PlainReductionIsReduction, PlainConversionIsConversion, PlainTypingIsTyping}
use Rattle.lp_terms.proofs.Terms.{at_same, at_other, same_of_test, open_close}
use Rattle.lp_terms.proofs.Substitution.{weaken, weaken_signature}
use Rattle.lp_terms.proofs.Binders.{typed_closed, typed_fresh}
use Rattle.lp_terms.proofs.PlainReadings.{reduces_all, converts_all, has_all, reduces_one, converts_one, has_one}
use Rattle.lp_terms.proofs.Sorts.{put, class_sorted}
use Rattle.lp_terms.proofs.WellFormedSignatures.{well_formed_free, constant_is_sorted}

closed_index : (k x i : ℕ) (b : Bool) → (b ≡ true → i ≡ k) → close_at k x (cond b (Lp.free x) (Lp.index i)) ≡ Lp.index i
closed_index k x i true e = at_same x (Lp.index k) (Lp.free x) ∙ ap Lp.index (sym (e refl))
closed_index k x i false e = refl

close_opening : (k x : ℕ) {t : Lp} → IsFresh x t → close_at k x (open_at k (Lp.free x) t) ≡ t
close_opening k x lp.IsFresh.sort = refl
close_opening k x lp.IsFresh.const = refl
close_opening k x (lp.IsFresh.free {n = n} h) = at_other n x (Lp.index k) (Lp.free n) h
close_opening k x (lp.IsFresh.index {i = i}) = closed_index k x i (i == k) (same_of_test i k)
close_opening k x (lp.IsFresh.app f a) = ap₂ Lp.app (close_opening k x f) (close_opening k x a)
close_opening k x (lp.IsFresh.abs f a) = ap₂ Lp.abs (close_opening k x f) (close_opening (suc k) x a)
close_opening k x (lp.IsFresh.prod f a) = ap₂ Lp.prod (close_opening k x f) (close_opening (suc k) x a)

pub closing_undoes_opening : ClosingUndoesOpening
closing_undoes_opening t x f = close_opening 0 x f

pub opening_closed_substitutes : OpeningClosedSubstitutes
opening_closed_substitutes t u x c = open_close x u c

pub well_formed_has_no_free : WellFormedHasNoFree
well_formed_has_no_free sigma w = well_formed_free sigma w

pub contexts_weaken : ContextsWeaken
contexts_weaken sigma g h t c w p = weaken h w p

pub signatures_weaken : SignaturesWeaken
signatures_weaken sigma tau g t c w p = weaken_signature tau w p

pub typed_terms_are_closed : TypedTermsAreClosed
typed_terms_are_closed sigma g t c p = typed_closed p

pub typed_terms_hold_their_context : TypedTermsHoldTheirContext
typed_terms_hold_their_context sigma g t c x h p = typed_fresh x h p

pub substitution_keeps_typing : SubstitutionKeepsTyping
substitution_keeps_typing sigma g x a u t c w h p q r = put x u (well_formed_free sigma w) h p q r

pub types_have_sorts : TypesHaveSorts
types_have_sorts sigma g t c w ok p = class_sorted sigma (well_formed_free sigma w) (constant_is_sorted sigma w) ok p

pub plain_reduction_is_reduction : PlainReductionIsReduction
plain_reduction_is_reduction sigma t u z = ((λ p. reduces_all sigma z p), (λ p. reduces_one p))

pub plain_conversion_is_conversion : PlainConversionIsConversion
plain_conversion_is_conversion sigma t u z = ((λ p. converts_all sigma z p), (λ p. converts_one p))

pub plain_typing_is_typing : PlainTypingIsTyping
plain_typing_is_typing sigma g t c z = ((λ p. has_all sigma z p), (λ p. has_one p))
