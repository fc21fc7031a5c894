-- Offers over ids, one after the other.
use Rattle.std.proofs.Common.{ℕ, zero, suc, ◌≡◌, ◌<◌, ◌≤◌, Option, None, Some, List, [], ◌∷◌, ◌++◌, slice_get, map, option_map, append_assoc, refl, ap, sym, subst, ◌∙◌, arith}
use Rattle.std.proofs.lemmas.Option.{none-some, same_Some, slice_get-map}
use Rattle.std.proofs.lemmas.List.{map-append}
use Rattle.zm_logic.specs.Tree as tree
use Rattle.zm_logic.specs.Measure.{depth}
use Rattle.term_store.specs.Trees.{Tables, HasForm, form_of, Extends}
use Rattle.term_store.specs.declared.ids.FormId.{FormId}
use Rattle.term_store.specs.declared.opening.Opening.{Opening}
use Rattle.term_store.specs.declared.opening.Redex.{Redex}
use Rattle.term_store.specs.declared.opening.Redex.TheVariants as redexes
use Rattle.term_store.proofs.Kept.{still_form, kept_form}
use Rattle.param_store.specs.RawOffers as raw
use Rattle.param_store.specs.Depth.{deepest}
use Rattle.param_store.specs.Fault.{IfDeepAt}
use Rattle.param_store.specs.View.{forms_of, raw_of, HasForms, HasRaws, AreRaws}
use Rattle.param_store.specs.declared.offer.RawOffer.{RawOffer}
use Rattle.param_store.specs.declared.quantified.Quantified.{Quantified}
use Rattle.param_store.specs.declared.fault.OfferFault.{OfferFault}
use Rattle.param_store.specs.declared.fault.OfferFault.TheVariants as faults
use Rattle.equality_rules.specs.Instances.{opened_where, instance_of}
use Rattle.equality_rules.specs.Offered.{HasSome, NamesInstance}

-- two lists of offers
has_both : (s : Tables) (rs qs : List RawOffer) → HasRaws s rs → HasRaws s qs → HasRaws s (rs ++ qs)
has_both s [] qs h k = k
has_both s (r ∷ rs) qs h k = (h.0, has_both s rs qs h.1 k)

pub raws_both : (s : Tables) (os ps : List raw.Raw) (rs qs : List RawOffer) → AreRaws s os rs → AreRaws s ps qs → AreRaws s (os ++ ps) (rs ++ qs)
raws_both s os ps rs qs h k = record {
  has = has_both s rs qs h.has k.has;
  offers = (map-append (raw_of s) rs qs) ∙ ap (λ xs. xs ++ map (raw_of s) qs) h.offers ∙ ap (λ xs. os ++ xs) k.offers;
}

pub raws_none : (s : Tables) → AreRaws s [] []
raws_none s = record { has = tt; offers = refl }

pub deepest_both : (os ps : List raw.Raw) → deepest os ≤ 2000 → deepest ps ≤ 2000 → deepest (os ++ ps) ≤ 2000
deepest_both [] ps h k = k
deepest_both (o ∷ os) ps h k =
    let l : deepest os ≤ 2000 = omega (arith, h) in
    let m = deepest_both os ps l k in omega (arith, h, m)

-- the first that is too deep among more offers
pub names_among : (s : Tables) (before offers after : List raw.Raw) (at : Redex) → deepest before ≤ 2000 → NamesInstance s offers at
    → NamesInstance s (before ++ (offers ++ after)) at
names_among s before offers after at b h = record {
  form = h.form;
  has = h.has;
  named = h.named;
  first = λ given. (let f = h.first given in record {
    before = before ++ f.before;
    offer = f.offer;
    after = f.after ++ after;
    order = ap (λ xs. before ++ (xs ++ after)) f.order ∙ ap (λ xs. before ++ xs) (append_assoc f.before (f.offer ∷ f.after) after)
        ∙ sym (append_assoc before f.before (f.offer ∷ (f.after ++ after)));
    bounded = deepest_both before f.before b f.bounded;
    deep = f.deep;
    named = f.named;
  });
}

-- an instance that is too deep
pub opened_names : (s t : Tables) → Extends s t → (acted : FormId) (q : raw.Quantified) (w : tree.Opening) → HasForm s acted → (fault : OfferFault)
    → IfDeepAt (λ at. (at ≡ redexes.OfForm acted) × (2000 < depth (raw.at_part q w))) fault
    → IfDeepAt (NamesInstance t (raw.opened (form_of s acted) q w ∷ [])) fault
opened_names s t e acted q w h faults.Memory k = tt
opened_names s t e acted q w h (faults.Deep at) k =
    subst (NamesInstance t (raw.opened (form_of s acted) q w ∷ [])) (sym k.0)
    (record {
      form = form_of s acted;
      has = still_form s t e acted h;
      named = ap tree.Side.of_form (kept_form s t e acted h);
      first = λ given. record {
        before = [];
        offer = raw.opened (form_of s acted) q w;
        after = [];
        order = refl;
        bounded = omega arith;
        deep = omega (arith, k.1);
        named = refl;
      };
    })

-- the instance of a quantified formula
pub instance_some : (s : Tables) (form : Option FormId) (acted : FormId) (q : raw.Quantified) (w : tree.Opening) → form ≡ Some acted
    → Some q ≡ raw.quantified (form_of s acted) → raw.opened (form_of s acted) q w ∷ [] ≡ instance_of (option_map (form_of s) form) w
instance_some s form acted q w e k =
    ap (λ o. opened_where (form_of s acted) o w) k ∙ ap (λ o. instance_of (option_map (form_of s) o) w) (sym e)

-- the formula of a number
pub has_at : (s : Tables) (ids : List FormId) (n : ℕ) (o : Option FormId) → HasForms s ids → o ≡ slice_get ids n → HasSome s o
has_at s ids n None h e = tt
has_at s [] n (Some f) h e = absurd (none-some f (sym e))
has_at s (i ∷ is) zero (Some f) h e = let g : Some f ≡ Some i = e in subst (HasForm s) (sym (same_Some f i g)) h.0
has_at s (i ∷ is) (suc n) (Some f) h e = has_at s is n (Some f) h.1 e

pub form_at_number : (s : Tables) (ids : List FormId) (n : ℕ) (o : Option FormId) → o ≡ slice_get ids n → option_map (form_of s) o ≡ slice_get (forms_of s ids) n
form_at_number s ids n o e = ap (option_map (form_of s)) e ∙ sym (slice_get-map (form_of s) ids n)
