-- A lawful tableau without an Open leaf gives a derivation.
use Rattle.std.proofs.Common.{◌≡◌, Bool, true, false, ◌&&◌, ◌||◌, cond, not, refl, ap, sym, subst, List, [], ◌∷◌, ◌++◌, inl, inr, Contains, Option, None, Some}
use Rattle.std.proofs.lemmas.List.Elements.{Contains-append_left, Contains-append_right, Contains-append_cases}
use Rattle.std.proofs.lemmas.Option.{same_Some}
use Rattle.std.proofs.lemmas.Bool.{not-true, and_parts}
use Rattle.zm_logic.specs.Tree.{Form}
use Rattle.zm_logic.specs.Parameter.{Never, HasNoParameter}
use Rattle.zm_logic.specs.Typing.{WellTyped}
use Rattle.zm_logic.proofs.Each.{each}
use Rattle.zm_logic.proofs.Sames.{Contains-here, Contains-there, Contains-none}
use Rattle.branch.specs.Branch.{extend}
use Rattle.branch.specs.Setting.{Setting}
use Rattle.branch.specs.Sound.{IsSound}
use Rattle.param_store.specs.RawOffers.{Act}
use Rattle.branch.specs.BranchOffers.{Kind}
use Rattle.branch.specs.Tableau.{Node, Children, given, is_finished, are_finished, is_skipped, fresh, without, is_apart, acted, is_idle, skips, used_or, uses, uses_all, idle_uses, enter, enter_child, after, IsLawful, AreLawful}
use Rattle.branch.specs.Offered.{Offered}
use Rattle.branch.specs.Introduced.{Above, IsIntroduced}
use Rattle.branch.proofs.Lists.{cond-cases}
use Rattle.branch.proofs.Branches.{closing-source}
use Rattle.branch.proofs.Closings.{IsWithin, closed_derives, closed_within}
use Rattle.branch.proofs.Made.{AreMade, raws, offer_made}
use Rattle.branch.proofs.Sequent.{IsBranch}
use Rattle.branch.proofs.Children.{offered_typed}
use Rattle.branch.proofs.Grows.{Keeps, child_keeps, after_keeps, all_in, child_branch, enter_has}
use Rattle.branch.proofs.Rules.{Proves, ProvesAll, offered_derives, acted_within, useful_is_new, converted}
use Rattle.branch.proofs.Uses.{kept_uses, beyond, idle_within}

pub entered : (t f : List Form) (n : Node) → is_skipped n ≡ false → enter_child t f n ≡ enter t f
entered t f n e = ap (λ v. cond v t (enter t f)) e

pub next_keeps : (table u f : List Form) (n : Node) → Keeps table u → Keeps table (after (enter_child u f n) n)
next_keeps table u f n k = λ m g e. after_keeps n (enter_child u f n) m g (child_keeps u f n m g (k m g e))

pub within_all : (r f gamma sequent : List Form) → IsWithin gamma sequent → IsWithin (f ++ (r ++ gamma)) (f ++ (r ++ sequent))
within_all r f gamma sequent w x h = elim (Contains-append_cases f (r ++ gamma) x h) [
  | inl i ↦ Contains-append_left f (r ++ sequent) x i
  | inr i ↦ elim (Contains-append_cases r gamma x i) [
    | inl j ↦ Contains-append_right f (r ++ sequent) x (Contains-append_left r sequent x j)
    | inr j ↦ Contains-append_right f (r ++ sequent) x (Contains-append_right r sequent x (w x j))
  ]
]

-- a Skipped node uses nothing
pub skipped_uses : (n : Node) (b : List Form) → is_skipped n ≡ true → IsWithin (uses b n) b
skipped_uses (Node.step k t a ns) b q = absurd (let p = q in cc)
skipped_uses (Node.closed c) b q = absurd (let p = q in cc)
skipped_uses Node.opened b q = absurd (let p = q in cc)
skipped_uses Node.skipped b q = λ x h. absurd (Contains-none x h)

pub child_uses : (n : Node) (b : List Form) (v : Bool) → is_skipped n ≡ v → (is_skipped n ≡ false → IsWithin (uses b n) b) → IsWithin (uses b n) b
child_uses n b false q rest = rest q
child_uses n b true q rest = skipped_uses n b q

unskipped : (prunes idle : Bool) → idle ≡ false → (false || (idle && prunes)) ≡ false
unskipped prunes true e = cc
unskipped prunes false e = refl

module _ (s : Setting) (sound : IsSound s) where
  mutual
    -- each list between what a finished node uses and the sequent there has a derivation
    pub derives : (n : Node) (table : List Form) (above : List Above) (b sequent gamma : List Form) → IsBranch s table above b sequent → IsLawful s table b n
        → is_finished n ≡ true → is_skipped n ≡ false → IsWithin (uses b n) gamma → IsWithin gamma sequent → Proves s gamma
    derives (Node.step k t a ns) table above b sequent gamma is l e skip w v =
        let m = offer_made s table b k t a (given ns) l.1 in
        go (idle_uses b ns) refl
        (derives_idle ns table table above b sequent gamma is (λ i g q. q) m.offered m.made (λ r h. h) false l.2 e v)
        (λ none all. offered_derives s sound table above b sequent is gamma v m.offered
        (λ x h. all x (Contains-append_left (acted a) (uses_all b ns) x h))
        (useful_is_new s sound b (given ns) m.made m.offer m.same_children m.useful)
        (derives_each ns table table above b sequent gamma is (λ i g q. q) m.offered m.made (λ r h. h) l.2 e none
        (λ x h. all x (Contains-append_right (acted a) (uses_all b ns) x h)) v)) w
      where
        go : (o : Option (List Form)) → idle_uses b ns ≡ o → ((used : List Form) → idle_uses b ns ≡ Some used → IsWithin used gamma → Proves s gamma)
            → (idle_uses b ns ≡ None → IsWithin (acted a ++ uses_all b ns) gamma → Proves s gamma)
            → IsWithin (used_or o (acted a ++ uses_all b ns)) gamma → Proves s gamma
        go None q f g w = g q w
        go (Some used) q f g w = f used q w
    derives (Node.closed c) table above b sequent gamma is l e skip w v = closed_derives s b gamma c w (closing-source [] b c l)
    derives Node.opened table above b sequent gamma is l e skip w v = absurd (let q = e in cc)
    derives Node.skipped table above b sequent gamma is l e skip w v = absurd (let q = skip in cc)

    -- the first idle child's derivation serves the Step
    pub derives_idle : (ns : Children) (table u : List Form) (above : List Above) (b sequent gamma : List Form) → IsBranch s table above b sequent → Keeps table u
        → {k : Kind} {a : Act} {cs : List (List Form)} → Offered s table b k a cs → AreMade s (given ns) → ((r : List Form) → Contains (raws (given ns)) r → Contains cs r)
        → (i : Bool) → AreLawful s u b i ns → are_finished ns ≡ true → IsWithin gamma sequent
        → (used : List Form) → idle_uses b ns ≡ Some used → IsWithin used gamma → Proves s gamma
    derives_idle Children.none table u above b sequent gamma is keeps offered made sub i l e v used q w = absurd (let p = q in cc)
    derives_idle (Children.more r f n ns) table u above b sequent gamma is keeps {k} {a} {cs} offered made sub i l e v used q w =
        let p = and_parts (is_finished n) (are_finished ns) e in
        let x = uses (extend b f) n in
        elim (cond-cases (is_idle b f n x) (Some x) (idle_uses b ns) (Some used) q) [
          | inl j ↦
              let P : List Form → Type 0 = λ y. IsWithin y gamma in
              let Q : List Form → Type 0 = λ y. IsLawful s y (extend b f) n in
              let z = and_parts (is_finished n) (not (is_skipped n) && is_apart (fresh b f) x) j.0 in
              let skip = not-true (is_skipped n) (and_parts (not (is_skipped n)) (is_apart (fresh b f) x) z.1).0 in
              derives n (enter u f) (record { kind = k; act = a } ∷ above) (extend b f) (f ++ (r ++ sequent)) gamma
              (child_branch s sound table above b sequent is u keeps offered r f (sub r (Contains-here r (raws (given ns)))) made.0)
              (subst Q (entered u f n skip) l.1) p.0 skip (subst P (sym (same_Some x used j.1)) w)
              (λ y h. Contains-append_right f (r ++ sequent) y (Contains-append_right r sequent y (v y h)))
          | inr j ↦ derives_idle ns table (after (enter_child u f n) n) above b sequent gamma is (next_keeps table u f n keeps) offered made.1
              (λ y h. sub y (Contains-there r (raws (given ns)) y h)) (i || skips s.prunes b f n) l.2 p.1 v used j.1 w
        ]

    -- without an idle child each child has its derivation
    pub derives_each : (ns : Children) (table u : List Form) (above : List Above) (b sequent gamma : List Form) → IsBranch s table above b sequent → Keeps table u
        → {k : Kind} {a : Act} {cs : List (List Form)} → Offered s table b k a cs → AreMade s (given ns) → ((r : List Form) → Contains (raws (given ns)) r → Contains cs r)
        → AreLawful s u b false ns → are_finished ns ≡ true → idle_uses b ns ≡ None → IsWithin (uses_all b ns) gamma → IsWithin gamma sequent
        → ProvesAll s (raws (given ns)) gamma
    derives_each Children.none table u above b sequent gamma is keeps offered made sub l e q w v = tt
    derives_each (Children.more r f n ns) table u above b sequent gamma is keeps {k} {a} {cs} offered made sub l e q w v =
        let p = and_parts (is_finished n) (are_finished ns) e in
        let x = uses (extend b f) n in
        elim (cond-cases (is_idle b f n x) (Some x) (idle_uses b ns) None q) [
          | inl j ↦ absurd (let z = j.1 in cc)
          | inr j ↦
              let Q : List Form → Type 0 = λ y. IsLawful s y (extend b f) n in
              let R : Bool → Type 0 = λ i. AreLawful s (after (enter_child u f n) n) b i ns in
              let h = sub r (Contains-here r (raws (given ns))) in (
                converted s sound (r ++ gamma) r f (all_in (WellTyped s.symbols) cs (offered_typed s sound table above b sequent is offered) r h) made.0
                    (λ y m. Contains-append_left r gamma y m)
                    (derives n (enter u f) (record { kind = k; act = a } ∷ above) (extend b f) (f ++ (r ++ sequent)) (f ++ (r ++ gamma))
                    (child_branch s sound table above b sequent is u keeps offered r f h made.0)
                    (subst Q (entered u f n l.0) l.1) p.0 l.0
                    (λ y m. elim (kept_uses b f x y m) [
                      | inl z ↦ Contains-append_left f (r ++ gamma) y z
                      | inr z ↦ Contains-append_right f (r ++ gamma) y (Contains-append_right r gamma y (w y (Contains-append_left (without (fresh b f) x) (uses_all b ns) y z)))
                    ])
                    (within_all r f gamma sequent v)),
                derives_each ns table (after (enter_child u f n) n) above b sequent gamma is (next_keeps table u f n keeps) offered made.1
                    (λ y m. sub y (Contains-there r (raws (given ns)) y m)) (subst R (unskipped s.prunes (is_idle b f n x) j.0) l.2) p.1 j.1
                    (λ y m. w y (Contains-append_right (without (fresh b f) x) (uses_all b ns) y m)) v,
              )
        ]

  mutual
    -- what a finished node uses stands on its branch
    pub uses_within : (n : Node) (table : List Form) (above : List Above) (b sequent : List Form) → IsBranch s table above b sequent → IsLawful s table b n
        → is_finished n ≡ true → IsWithin (uses b n) b
    uses_within (Node.step k t a ns) table above b sequent is l e =
        let m = offer_made s table b k t a (given ns) l.1 in
        go (idle_uses b ns) refl (idle_uses_within ns table table above b sequent is (λ i g q. q) m.offered m.made (λ r h. h) false l.2 e)
        (λ x h. elim (Contains-append_cases (acted a) (uses_all b ns) x h) [
          | inl i ↦ acted_within s sound table above b sequent is m.offered x i
          | inr i ↦ uses_all_within ns table table above b sequent is (λ i g q. q) m.offered m.made (λ r h. h) false l.2 e x i
        ])
      where
        go : (o : Option (List Form)) → idle_uses b ns ≡ o → ((used : List Form) → idle_uses b ns ≡ Some used → IsWithin used b)
            → IsWithin (acted a ++ uses_all b ns) b → IsWithin (used_or o (acted a ++ uses_all b ns)) b
        go None q f g = g
        go (Some used) q f g = f used q
    uses_within (Node.closed c) table above b sequent is l e = closed_within b c (closing-source [] b c l)
    uses_within Node.opened table above b sequent is l e = λ x h. absurd (Contains-none x h)
    uses_within Node.skipped table above b sequent is l e = λ x h. absurd (Contains-none x h)

    pub idle_uses_within : (ns : Children) (table u : List Form) (above : List Above) (b sequent : List Form) → IsBranch s table above b sequent → Keeps table u
        → {k : Kind} {a : Act} {cs : List (List Form)} → Offered s table b k a cs → AreMade s (given ns) → ((r : List Form) → Contains (raws (given ns)) r → Contains cs r)
        → (i : Bool) → AreLawful s u b i ns → are_finished ns ≡ true → (used : List Form) → idle_uses b ns ≡ Some used → IsWithin used b
    idle_uses_within Children.none table u above b sequent is keeps offered made sub i l e used q = absurd (let p = q in cc)
    idle_uses_within (Children.more r f n ns) table u above b sequent is keeps {k} {a} {cs} offered made sub i l e used q =
        let p = and_parts (is_finished n) (are_finished ns) e in
        let x = uses (extend b f) n in
        elim (cond-cases (is_idle b f n x) (Some x) (idle_uses b ns) (Some used) q) [
          | inl j ↦
              let P : List Form → Type 0 = λ y. IsWithin y b in
              let Q : List Form → Type 0 = λ y. IsLawful s y (extend b f) n in
              let z = and_parts (is_finished n) (not (is_skipped n) && is_apart (fresh b f) x) j.0 in
              let y = and_parts (not (is_skipped n)) (is_apart (fresh b f) x) z.1 in
              subst P (same_Some x used j.1) (idle_within b f x y.1
              (uses_within n (enter u f) (record { kind = k; act = a } ∷ above) (extend b f) (f ++ (r ++ sequent))
              (child_branch s sound table above b sequent is u keeps offered r f (sub r (Contains-here r (raws (given ns)))) made.0)
              (subst Q (entered u f n (not-true (is_skipped n) y.0)) l.1) p.0))
          | inr j ↦ idle_uses_within ns table (after (enter_child u f n) n) above b sequent is (next_keeps table u f n keeps) offered made.1
              (λ y h. sub y (Contains-there r (raws (given ns)) y h)) (i || skips s.prunes b f n) l.2 p.1 used j.1
        ]

    pub uses_all_within : (ns : Children) (table u : List Form) (above : List Above) (b sequent : List Form) → IsBranch s table above b sequent → Keeps table u
        → {k : Kind} {a : Act} {cs : List (List Form)} → Offered s table b k a cs → AreMade s (given ns) → ((r : List Form) → Contains (raws (given ns)) r → Contains cs r)
        → (i : Bool) → AreLawful s u b i ns → are_finished ns ≡ true → IsWithin (uses_all b ns) b
    uses_all_within Children.none table u above b sequent is keeps offered made sub i l e = λ x h. absurd (Contains-none x h)
    uses_all_within (Children.more r f n ns) table u above b sequent is keeps {k} {a} {cs} offered made sub i l e =
        let p = and_parts (is_finished n) (are_finished ns) e in
        let x = uses (extend b f) n in
        let Q : List Form → Type 0 = λ y. IsLawful s y (extend b f) n in
        λ y h. elim (Contains-append_cases (without (fresh b f) x) (uses_all b ns) y h) [
          | inl j ↦ beyond b f x (child_uses n (extend b f) (is_skipped n) refl
              (λ q. uses_within n (enter u f) (record { kind = k; act = a } ∷ above) (extend b f) (f ++ (r ++ sequent))
              (child_branch s sound table above b sequent is u keeps offered r f (sub r (Contains-here r (raws (given ns)))) made.0) (subst Q (entered u f n q) l.1) p.0)) y j
          | inr j ↦ uses_all_within ns table (after (enter_child u f n) n) above b sequent is (next_keeps table u f n keeps) offered made.1
              (λ y h. sub y (Contains-there r (raws (given ns)) y h)) (i || skips s.prunes b f n) l.2 p.1 y j
        ]

  -- the root's branch, with the formulas that it is reached from
  pub root_branch : (given root : List Form) → ((f : Form) → Contains given f → WellTyped s.symbols f × HasNoParameter f)
      → ((g : Form) → Contains root g → WellTyped s.symbols g × HasNoParameter g) → IsBranch s (enter [] root) [] root (root ++ given)
  root_branch given root h k = record {
    within = λ f m. Contains-append_left root given f m;
    typed = λ f m. elim (Contains-append_cases root given f m) [ inl i ↦ (k f i).0 | inr i ↦ (h f i).0 ];
    introduced = λ f m. each Never (IsIntroduced s (enter [] root) [] root) (λ p z. absurd z) f
        (elim (Contains-append_cases root given f m) [ inl i ↦ (k f i).1 | inr i ↦ (h f i).1 ]);
    numbered = λ f m e. enter_has [] root f m e;
  }
