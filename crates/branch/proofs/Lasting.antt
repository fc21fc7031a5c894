-- Offers that are listed, and what a search is given, stay while the store grows.
use Rattle.std.proofs.Common.{◌≡◌, List, [], ◌∷◌, ◌++◌, map, refl, ap, sym, ◌∙◌}
use Rattle.std.proofs.lemmas.List.{map_push}
use Rattle.zm_logic.specs.Tree.{Form, Symbol}
use Rattle.term_store.specs.Trees.{Tables, Extends}
use Rattle.term_store.specs.declared.ids.FormId.{FormId}
use Rattle.param_store.specs.RawOffers as raw
use Rattle.param_store.specs.View.{act_of, lists_of}
use Rattle.param_store.specs.declared.offer.Act.{Act}
use Rattle.param_store.proofs.Stay.{lists_still, lists_stay, are_forms_stay, act_still, act_stays}
use Rattle.branch.specs.declared.listed.Listed.{Listed}
use Rattle.branch.specs.Setting.{Setting}
use Rattle.branch.specs.Ids.{kind_of}
use Rattle.branch.specs.Offers.{Child, Offer, total_size}
use Rattle.branch.specs.Listed.{capped, children_of, listed_children, listed_of, IsListed, EachListed, AreListed}
use Rattle.branch.specs.Listing.{IsCase}

module _ (s t : Tables) (e : Extends s t) where
  children_stay : (l : Listed) → IsListed s l → listed_children t l ≡ listed_children s l
  children_stay l h =
      ap (λ rs. children_of rs (lists_of t l.normal)) (lists_stay s t e l.raw h.raw)
      ∙ ap (children_of (lists_of s l.raw)) (lists_stay s t e l.normal h.normal)

  listed_still : (l : Listed) → IsListed s l → IsListed t l
  listed_still l h = record {
    act = act_still s t e l.act h.act;
    raw = lists_still s t e l.raw h.raw;
    normal = lists_still s t e l.normal h.normal;
    paired = h.paired;
    counted = h.counted;
    sized = h.sized ∙ ap (λ cs. capped (total_size cs)) (sym (children_stay l h));
  }

  listed_stays : (l : Listed) → IsListed s l → listed_of t l ≡ listed_of s l
  listed_stays l h =
      let make : raw.Act → List Child → Offer =
      λ a cs. record { kind = kind_of l.offer.kind; act = a; children = cs; later = l.offer.later; earlier = l.offer.earlier; size = total_size cs } in
      ap (λ a. make a (listed_children t l)) (act_stays s t e l.act h.act) ∙ ap (make (act_of s l.act)) (children_stay l h)

  each_still : (ls : List Listed) → EachListed s ls → EachListed t ls
  each_still [] h = tt
  each_still (l ∷ ls) h = (listed_still l h.0, each_still ls h.1)

  each_stay : (ls : List Listed) → EachListed s ls → map (listed_of t) ls ≡ map (listed_of s) ls
  each_stay [] h = refl
  each_stay (l ∷ ls) h = ap (λ o. o ∷ map (listed_of t) ls) (listed_stays l h.0) ∙ ap (λ os. listed_of s l ∷ os) (each_stay ls h.1)

  pub are_listed_stay : (os : List Offer) (ls : List Listed) → AreListed s os ls → AreListed t os ls
  are_listed_stay os ls h = record { each = each_still ls h.each; offers = each_stay ls h.each ∙ h.offers }

  pub case_stays : (symbols : List Symbol) (params forms : List FormId) (x : Setting) (table branch : List Form)
      → IsCase s symbols params forms x table branch → IsCase t symbols params forms x table branch
  case_stays symbols params forms x table branch h = record {
    symbols = h.symbols;
    rules = h.rules;
    table = are_forms_stay s t e table params h.table;
    branch = are_forms_stay s t e branch forms h.branch;
  }

-- one offer more
module _ (s : Tables) where
  each_push : (ls : List Listed) (l : Listed) → EachListed s ls → IsListed s l → EachListed s (ls ++ l ∷ [])
  each_push [] l h k = (k, tt)
  each_push (x ∷ ls) l h k = (h.0, each_push ls l h.1 k)

  pub listed_push : (os : List Offer) (o : Offer) (ls : List Listed) (l : Listed) → AreListed s os ls → IsListed s l → listed_of s l ≡ o
      → AreListed s (os ++ o ∷ []) (ls ++ l ∷ [])
  listed_push os o ls l h k e = record {
    each = each_push ls l h.each k;
    offers = (map_push (listed_of s) ls l) ∙ ap (λ xs. xs ++ listed_of s l ∷ []) h.offers ∙ ap (λ x. os ++ x ∷ []) e;
  }

  pub none_listed : AreListed s [] []
  none_listed = record { each = tt; offers = refl }
