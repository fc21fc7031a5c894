-- A raw offer that is listed with its own formulas as their normal forms.
use Rattle.std.proofs.Common.{◌≡◌, List, length, ap, sym, subst, ◌∙◌}
use Rattle.term_store.specs.Trees.{Tables}
use Rattle.param_store.specs.RawOffers as raw
use Rattle.param_store.specs.View.{act_of, lists_of, raw_of, HasAct, HasLists, HasRaw}
use Rattle.param_store.specs.declared.offer.RawOffer.{RawOffer}
use Rattle.branch.specs.declared.listed.Listed.{Listed}
use Rattle.branch.specs.Ids.{kind_of}
use Rattle.branch.specs.Offers.{Child, Offer, total_size}
use Rattle.branch.specs.Left.{unchanged, offer_at}
use Rattle.branch.specs.Listed.{capped, lists_size, children_of, listed_children, listed_of, IsListed}
use Rattle.branch.proofs.Sizing.{total_is, unchanged_is}

module _ (s : Tables) (r : RawOffer) (l : Listed) (raws : l.raw ≡ r.children) (normals : l.normal ≡ r.children) where
  children_are : listed_children s l ≡ unchanged (lists_of s r.children)
  children_are =
      ap (λ rs. children_of (lists_of s rs) (lists_of s l.normal)) raws
      ∙ (ap (λ ns. children_of (lists_of s r.children) (lists_of s ns)) normals ∙ unchanged_is (lists_of s r.children))

  pub is_listed : HasRaw s r → l.act ≡ r.act → l.offer.children ≡ length r.children → l.offer.size ≡ capped (lists_size (lists_of s r.children)) → IsListed s l
  is_listed h a n z = record {
    act = subst (HasAct s) (sym a) h.act;
    raw = subst (HasLists s) (sym raws) h.children;
    normal = subst (HasLists s) (sym normals) h.children;
    paired = ap length normals ∙ sym (ap length raws);
    counted = n ∙ sym (ap length raws);
    sized = z ∙ ap capped (total_is (lists_of s r.children) ∙ ap total_size (sym children_are));
  }

  pub tree_is : l.act ≡ r.act → listed_of s l ≡ offer_at (kind_of l.offer.kind) l.offer.later l.offer.earlier (raw_of s r)
  tree_is a =
      let make : raw.Act → List Child → Offer =
      λ x cs. record { kind = kind_of l.offer.kind; act = x; children = cs; later = l.offer.later; earlier = l.offer.earlier; size = total_size cs } in
      ap (λ x. make (act_of s x) (listed_children s l)) a ∙ ap (make (act_of s r.act)) children_are
