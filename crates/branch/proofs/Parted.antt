-- The offers of a branch, part by part: what the loops list, and what stops them.
use Rattle.std.proofs.Common.{ℕ, zero, suc, ◌≡◌, ◌+◌, ◌-◌, ◌<◌, ◌≤◌, false, List, [], length, map, append-nil, None, refl, sym, subst, ◌∙◌, arith}
use Rattle.zm_logic.specs.Tree.{Form, Symbol}
use Rattle.term_store.specs.Trees.{Tables, Extends}
use Rattle.term_store.specs.Open.{HasRedex, redex_of}
use Rattle.term_store.specs.declared.ids.FormId.{FormId}
use Rattle.term_store.specs.declared.opening.Redex.{Redex}
use Rattle.param_store.specs.View.{forms_of, HasForms}
use Rattle.param_store.proofs.Stay.{forms_stay}
use Rattle.branch.specs.declared.listed.Listed.{Listed}
use Rattle.branch.specs.declared.stop.BranchStop.{BranchStop}
use Rattle.branch.specs.Setting.{Setting}
use Rattle.branch.specs.Normal.{Fault}
use Rattle.equality_rules.specs.Pairs.{opposites}
use Rattle.branch.specs.BranchOffers.{PairEntries, has_equality}
use Rattle.branch.specs.Offers.{AreOffers, HasFault}
use Rattle.branch.specs.Left.{form_at, OwnAt, SingleAt, PairAt, PairsTo, OthersAt, PlaceAt, PlacesTo}
use Rattle.branch.specs.Listed.{EachListed, IfStop, listed_of}
use Rattle.branch.specs.Listing.{IsCase, AddsPart, IsTooDeep}
use Rattle.branch.proofs.Together.{no_pairs, pair_more, single_and_pairs, own_and_others, no_places, place_more, all_offers, pairs_then, single_then, own_then, has_fault}
use Rattle.branch.proofs.Existing.{single_there, pairs_there, rest_there}
use Rattle.branch.proofs.Lasting.{none_listed}
use Rattle.branch.proofs.Adding.{if_stop, adds_none, adds_both, deep_after, deep_then, branch_length}

module _ (symbols : List Symbol) (params forms : List FormId) where
  -- a place within the ids is one within the branch
  within : (u : Tables) (s : Setting) (table branch : List Form) → IsCase u symbols params forms s table branch → (j : ℕ) → j < length forms → j < length branch
  within u s table branch c j l = let e = branch_length u symbols params forms s table branch c in omega (arith, e)

  pub pairs_none : (j : ℕ) (u : Tables) (ls : List Listed) → AddsPart (PairsTo j 0) u u symbols params forms ls ls
  pairs_none j u ls = adds_none symbols params forms (PairsTo j 0) u ls (λ s table branch c. no_pairs s table branch j)

  pub places_none : (u : Tables) (ls : List Listed) → AddsPart (PlacesTo 0) u u symbols params forms ls ls
  places_none u ls = adds_none symbols params forms (PlacesTo 0) u ls (λ s table branch c. no_places s table branch)

  -- a pair that gives nothing, and several of them
  module _ (u v : Tables) (j : ℕ) (l m : List Listed) where
    abbrev IsIdle : ℕ → Type 0
    IsIdle k = opposites (form_at (forms_of u forms) k) (form_at (forms_of u forms) j) ≡ None

    pairs_idle : (n : ℕ) → n < length forms → IsIdle n → AddsPart (PairsTo j n) u v symbols params forms l m
        → AddsPart (PairsTo j (n + 1)) u v symbols params forms l m
    pairs_idle n x q h s table branch c =
        let y = h s table branch c in
        let z : PairAt j n s table branch [] = PairEntries.none (subst (λ b. opposites (form_at b n) (form_at b j) ≡ None) c.branch.forms q) in
        record {
          entries = y.entries;
          are = subst (λ es. PairsTo j (n + 1) s table branch es) (append-nil y.entries)
              (pair_more s table branch j n y.entries [] (within u s table branch c n x) y.are z);
          offers = y.offers;
          left = y.left;
          listed = y.listed;
        }

    pairs_idle_on : (d n : ℕ) → n + d ≤ length forms → ((k : ℕ) → n ≤ k → k < n + d → IsIdle k) → AddsPart (PairsTo j n) u v symbols params forms l m
        → AddsPart (PairsTo j (n + d)) u v symbols params forms l m
    pairs_idle_on zero n x q h = let e : n ≡ n + 0 = omega arith in subst (λ k. AddsPart (PairsTo j k) u v symbols params forms l m) e h
    pairs_idle_on (suc d) n x q h =
        let e : (n + 1) + d ≡ n + suc d = omega arith in
        subst (λ k. AddsPart (PairsTo j k) u v symbols params forms l m) e
        (pairs_idle_on d (n + 1) (omega arith) (λ k a b. q k (omega arith) (omega arith)) (pairs_idle n (omega arith) (q n (omega arith) (omega arith)) h))

    pub pairs_skip : (from to : ℕ) → from ≤ to → to ≤ length forms → ((k : ℕ) → from ≤ k → k < to → IsIdle k) → AddsPart (PairsTo j from) u v symbols params forms l m
        → AddsPart (PairsTo j to) u v symbols params forms l m
    pairs_skip from to a x q h =
        let e : from + (to - from) ≡ to = omega arith in
        subst (λ k. AddsPart (PairsTo j k) u v symbols params forms l m) e
        (pairs_idle_on (to - from) from (omega arith) (λ k b c. q k b (omega arith)) h)

  module _ (u v w : Tables) (e : Extends u v) (j : ℕ) where
    -- one more pair
    pub pairs_more : (n : ℕ) → n < length forms → (l m k : List Listed) → AddsPart (PairsTo j n) u v symbols params forms l m
        → AddsPart (PairAt j n) v w symbols params forms m k → AddsPart (PairsTo j (n + 1)) u w symbols params forms l k
    pairs_more n x l m k h g =
        adds_both symbols params forms (PairsTo j n) (PairAt j n) (PairsTo j (n + 1)) u v w e
        (λ s table branch c xs ys p q. pair_more s table branch j n xs ys (within u s table branch c n x) p q) l m k h g

    pub pairs_deep : (n : ℕ) → n < j → j < length forms → (l m : List Listed) → AddsPart (PairsTo j n) u v symbols params forms l m
        → (stop : BranchStop) → IfStop (IsTooDeep (PairAt j n) v w symbols params forms) stop → IfStop (IsTooDeep (PairsTo j j) u w symbols params forms) stop
    pairs_deep n x y l m h stop d =
        if_stop (IsTooDeep (PairAt j n) v w symbols params forms) (IsTooDeep (PairsTo j j) u w symbols params forms)
        (λ at z. deep_then symbols params forms (PairsTo j (n + 1)) (PairsTo j j) u w
        (λ s table branch c xs p.
        pairs_then s table branch (Fault.deep (redex_of w at)) (rest_there s table false) (pairs_there s table false) (single_there s table false) j (n + 1) (omega arith) xs p)
        at
        (deep_after symbols params forms (PairsTo j n) (PairAt j n) (PairsTo j (n + 1)) u v w e
        (λ s table branch c xs ys p q. pair_more s table branch j n xs ys (within u s table branch c n (omega arith)) p q) l m h at z))
        stop d

    -- what a formula gives beyond its rule, and then the pairs
    pub others_add : (l m k : List Listed) → AddsPart (SingleAt j) u v symbols params forms l m → AddsPart (PairsTo j j) v w symbols params forms m k
        → AddsPart (OthersAt j) u w symbols params forms l k
    others_add l m k h g =
        adds_both symbols params forms (SingleAt j) (PairsTo j j) (OthersAt j) u v w e
        (λ s table branch c xs ys p q. single_and_pairs s table branch j xs ys p q) l m k h g

    pub others_deep : (l m : List Listed) → AddsPart (SingleAt j) u v symbols params forms l m → (stop : BranchStop)
        → IfStop (IsTooDeep (PairsTo j j) v w symbols params forms) stop → IfStop (IsTooDeep (OthersAt j) u w symbols params forms) stop
    others_deep l m h stop d =
        if_stop (IsTooDeep (PairsTo j j) v w symbols params forms) (IsTooDeep (OthersAt j) u w symbols params forms)
        (λ at z. deep_after symbols params forms (SingleAt j) (PairsTo j j) (OthersAt j) u v w e
        (λ s table branch c xs ys p q. single_and_pairs s table branch j xs ys p q) l m h at z)
        stop d

    -- a formula's own offers, and then the others
    pub place_adds : (l m k : List Listed) → AddsPart (OwnAt j) u v symbols params forms l m → AddsPart (OthersAt j) v w symbols params forms m k
        → AddsPart (PlaceAt j) u w symbols params forms l k
    place_adds l m k h g =
        adds_both symbols params forms (OwnAt j) (OthersAt j) (PlaceAt j) u v w e
        (λ s table branch c xs ys p q. own_and_others s table branch j xs ys p q) l m k h g

    pub place_deep : (l m : List Listed) → AddsPart (OwnAt j) u v symbols params forms l m → (stop : BranchStop)
        → IfStop (IsTooDeep (OthersAt j) v w symbols params forms) stop → IfStop (IsTooDeep (PlaceAt j) u w symbols params forms) stop
    place_deep l m h stop d =
        if_stop (IsTooDeep (OthersAt j) v w symbols params forms) (IsTooDeep (PlaceAt j) u w symbols params forms)
        (λ at z. deep_after symbols params forms (OwnAt j) (OthersAt j) (PlaceAt j) u v w e
        (λ s table branch c xs ys p q. own_and_others s table branch j xs ys p q) l m h at z)
        stop d

    -- one more place
    pub places_more : j < length forms → (l m k : List Listed) → AddsPart (PlacesTo j) u v symbols params forms l m
        → AddsPart (PlaceAt j) v w symbols params forms m k → AddsPart (PlacesTo (j + 1)) u w symbols params forms l k
    places_more x l m k h g =
        adds_both symbols params forms (PlacesTo j) (PlaceAt j) (PlacesTo (j + 1)) u v w e
        (λ s table branch c xs ys p q. place_more s table branch j xs ys (within u s table branch c j x) p q) l m k h g

    pub places_deep : j < length forms → (l m : List Listed) → AddsPart (PlacesTo j) u v symbols params forms l m → (at : Redex)
        → IsTooDeep (PlaceAt j) v w symbols params forms at → IsTooDeep (PlacesTo (j + 1)) u w symbols params forms at
    places_deep x l m h at d =
        deep_after symbols params forms (PlacesTo j) (PlaceAt j) (PlacesTo (j + 1)) u v w e
        (λ s table branch c xs ys p q. place_more s table branch j xs ys (within u s table branch c j x) p q) l m h at d

  -- a fault of the first of two parts
  module _ (u v : Tables) (j : ℕ) (stop : BranchStop) where
    pub single_stops : IfStop (IsTooDeep (SingleAt j) u v symbols params forms) stop → IfStop (IsTooDeep (OthersAt j) u v symbols params forms) stop
    single_stops d =
        if_stop (IsTooDeep (SingleAt j) u v symbols params forms) (IsTooDeep (OthersAt j) u v symbols params forms)
        (λ at z. deep_then symbols params forms (SingleAt j) (OthersAt j) u v
        (λ s table branch c xs p.
        single_then s table branch (Fault.deep (redex_of v at)) (rest_there s table false) (pairs_there s table false) (single_there s table false) j xs p)
        at z)
        stop d

    pub own_stops : IfStop (IsTooDeep (OwnAt j) u v symbols params forms) stop → IfStop (IsTooDeep (PlaceAt j) u v symbols params forms) stop
    own_stops d =
        if_stop (IsTooDeep (OwnAt j) u v symbols params forms) (IsTooDeep (PlaceAt j) u v symbols params forms)
        (λ at z. deep_then symbols params forms (OwnAt j) (PlaceAt j) u v
        (λ s table branch c xs p.
        own_then s table branch (Fault.deep (redex_of v at)) (rest_there s table false) (pairs_there s table false) (single_there s table false) j xs p)
        at z)
        stop d

  -- all offers, and a fault of the branch
  module _ (u v : Tables) (e : Extends u v) (has : HasForms u forms) (numbered : HasForms u params) (plain : has_equality (forms_of u forms) ≡ false) where
    case_of : (s : Setting) → s.symbols ≡ symbols → s.rules ≡ [] → IsCase u symbols params forms s (forms_of u params) (forms_of u forms)
    case_of s h k = record {
      symbols = h;
      rules = k;
      table = record { has = numbered; forms = refl };
      branch = record { has = has; forms = refl };
    }

    pub all_listed : (n : ℕ) (ls : List Listed) → n ≡ length forms → AddsPart (PlacesTo n) u v symbols params forms [] ls
        → (s : Setting) → s.symbols ≡ symbols → s.rules ≡ [] → AreOffers s (forms_of v params) (forms_of v forms) (map (listed_of v) ls)
    all_listed n ls l h s p q =
        let c = case_of s p q in
        let x = h s (forms_of u params) (forms_of u forms) c in
        let m : n ≡ length (forms_of u forms) = l ∙ sym (branch_length u symbols params forms s (forms_of u params) (forms_of u forms) c) in
        let are = subst (λ k. PlacesTo k s (forms_of u params) (forms_of u forms) x.entries) m x.are in
        let os = all_offers s (forms_of u params) (forms_of u forms) x.entries x.offers plain are x.left in
        let y = x.listed [] (none_listed u) in
        subst (λ b. AreOffers s (forms_of v params) b (map (listed_of v) ls)) (sym (forms_stay u v e forms has))
        (subst (λ t. AreOffers s t (forms_of u forms) (map (listed_of v) ls)) (sym (forms_stay u v e params numbered))
        (subst (AreOffers s (forms_of u params) (forms_of u forms)) (sym y.offers) os))

    pub each_listed : (n : ℕ) (ls : List Listed) → AddsPart (PlacesTo n) u v symbols params forms [] ls → EachListed v ls
    each_listed n ls h =
        let s : Setting = record { symbols = symbols; rules = []; rewrites = 0; prunes = false } in
        let x = h s (forms_of u params) (forms_of u forms) (case_of s refl refl) in
        (x.listed [] (none_listed u)).each

    abbrev pub IsFault : Redex → Type 0
    IsFault at =
        HasRedex v at × ((s : Setting) → s.symbols ≡ symbols → s.rules ≡ [] → HasFault s (forms_of v params) (forms_of v forms) (Fault.deep (redex_of v at)))

    pub stopped : (n : ℕ) (at : Redex) → IsTooDeep (PlacesTo n) u v symbols params forms at → IsFault at
    stopped n at d = (
      d.0,
      λ s p q. (
          let c = case_of s p q in
          let table = forms_of u params in
          let b = forms_of u forms in
          let f = Fault.deep (redex_of v at) in
          let x = has_fault s table b f (rest_there s table false) (pairs_there s table false) (single_there s table false) n plain (d.1 s table b c) in
          subst (λ k. HasFault s (forms_of v params) k f) (sym (forms_stay u v e forms has))
          (subst (λ t. HasFault s t b f) (sym (forms_stay u v e params numbered)) x)),
    )
