-- The own offers of a delta or a gamma formula, and one offer that is made of its parts.
use Rattle.std.proofs.Common.{ℕ, ◌≡◌, false, Option, None, Some, List, [], ◌∷◌, ◌++◌, ap, ◌∙◌}
use Rattle.zm_logic.specs.Tree as tree
use Rattle.term_store.specs.Trees.{Tables, HasForm, form_of, Extends}
use Rattle.term_store.specs.Open.{HasPart, part_of}
use Rattle.term_store.specs.declared.ids.FormId.{FormId}
use Rattle.term_store.specs.declared.opening.Opening.{Opening}
use Rattle.term_store.proofs.Kept.{still_form, kept_form, still_part, kept_part}
use Rattle.param_store.specs.declared.offer.RawOffer.{RawOffer}
use Rattle.param_store.specs.RawOffers as raw
use Rattle.param_store.specs.RawOffers.{Quantified, split, split_offers, quantified, opened_offers, number_of, own_offers}
use Rattle.param_store.specs.View.{HasRaw, raw_of}

-- the own offers of a delta or a gamma formula
pub own_opened : (table : List tree.Form) (f : tree.Form) (q : Quantified) (n : ℕ) → split f ≡ [] → quantified f ≡ Some q → number_of table f ≡ n
    → own_offers table f ≡ opened_offers n f (Some q)
own_opened table f q n e k i =
    ap (λ cs. split_offers f cs ++ opened_offers (number_of table f) f (quantified f)) e
    ∙ ap (opened_offers (number_of table f) f) k
    ∙ ap (λ m. opened_offers m f (Some q)) i

-- the offer that acts on a formula, which is opened with a part where it is a quantified one
abbrev pub offer_of : FormId → Option Opening → List (List FormId) → RawOffer
offer_of f w ids = record { act = record { first = f; second = None; with = w; other = false }; children = ids }

-- the formula and the part stay what they were while the child's formula is made
module _ (s t : Tables) (e : Extends s t) (f : FormId) (h : HasForm s f) where
  pub with_has : (w : Opening) (i : FormId) → HasPart s w → HasForm t i → HasRaw t (offer_of f (Some w) ((i ∷ []) ∷ []))
  with_has w i k l =
      record { act = record { first = still_form s t e f h; second = tt; part = still_part s t e w k }; children = ((l, tt), tt) }

  pub with_made : (q : Quantified) (w : Opening) (i : FormId) → HasPart s w → form_of t i ≡ raw.at_part q (part_of s w)
      → raw_of t (offer_of f (Some w) ((i ∷ []) ∷ [])) ≡ raw.opened (form_of s f) q (part_of s w)
  with_made q w i k l =
      let a = kept_form s t e f h in
      let b = kept_part s t e w k in
      cc
