-- A branch that is closed has a derivation from what closes it.
use Rattle.std.proofs.Common.{◌≡◌, Bool, true, false, refl, sym, subst, List, [], ◌∷◌, ◌⊎◌, inl, inr, Contains, Some}
use Rattle.std.specs.Option.{option_to_list}
use Rattle.std.proofs.lemmas.Option.{same_Some}
use Rattle.std.proofs.lemmas.Bool.{and_parts}
use Rattle.zm_logic.specs.Tree.{Term, Form}
use Rattle.zm_logic.specs.Calculus.{Derives}
use Rattle.zm_logic.specs.Same.{same}
use Rattle.branch.specs.Setting.{Setting}
use Rattle.branch.specs.Branch.{Closing, closes_alone, closing_of, is_swapped, pair_of}
use Rattle.zm_logic.proofs.Sames.{Contains-here, Contains-there, Contains-cases, same-true, same_type-true, same_term-true, only}
use Rattle.branch.proofs.Lists.{cond-cases}
use Rattle.branch.proofs.Branches.{Closes}

abbrev pub IsWithin : List Form → List Form → Type 0
IsWithin xs ys = (f : Form) → Contains xs f → Contains ys f

pub alone-derives : (s : Setting) (gamma : List Form) (f : Form) → Contains gamma f → closes_alone f ≡ true → Derives s.symbols s.rules gamma
alone-derives s gamma Form.falsity h e = Derives.falsity h
alone-derives s gamma (Form.negation Form.truth) h e = Derives.not_truth h
alone-derives s gamma (Form.negation (Form.equal t a b)) h e =
    let P : Term → Type 0 = λ x. Contains gamma (Form.negation (Form.equal t a x)) in
    Derives.reflexive t a (subst P (sym (same_term-true a b e)) h)
alone-derives s gamma f h e = cc

pub swapped-derives : (s : Setting) (gamma : List Form) (g f : Form) → Contains gamma g → Contains gamma f → is_swapped g f ≡ true → Derives s.symbols s.rules gamma
swapped-derives s gamma (Form.equal t a b) (Form.negation (Form.equal u c d)) hg hf e =
    let p = and_parts _ _ e in let q = and_parts _ _ p.1 in
    let eq : Form.negation (Form.equal u c d) ≡ Form.negation (Form.equal t b a) =
    let i = same_type-true t u p.0 in let j = same_term-true a d q.0 in let k = same_term-true b c q.1 in cc in
    let P : Form → Type 0 = λ x. Contains gamma x in
    Derives.symmetric t a b hg (subst P eq hf)
swapped-derives s gamma g f hg hf e = cc

pub pair-derives : (s : Setting) (gamma : List Form) (g f : Form) (c : Closing) → Contains gamma g → Contains gamma f → closing_of g f ≡ Some c → Derives s.symbols s.rules gamma
pair-derives s gamma g f c hg hf e =
    let P : Form → Type 0 = λ x. Contains gamma x in
    elim (cond-cases (same f (Form.negation g)) _ _ _ e) [
      | inl a ↦ Derives.closes g hg (subst P (same-true f (Form.negation g) a.0) hf)
      | inr a ↦ elim (cond-cases (same g (Form.negation f)) _ _ _ a.1) [
        | inl b ↦ Derives.closes f hf (subst P (same-true g (Form.negation f) b.0) hg)
        | inr b ↦ elim (cond-cases (is_swapped g f) _ _ _ b.1) [
          | inl d ↦ swapped-derives s gamma g f hg hf d.0
          | inr d ↦ elim (cond-cases (is_swapped f g) _ _ _ d.1) [
            | inl i ↦ swapped-derives s gamma f g hf hg i.0
            | inr i ↦ absurd (let q = i.1 in cc)
          ]
        ]
      ]
    ]

pub in_pair : (p q : Form) (v : Bool) (c : Closing) (x : Form) → Some (pair_of p q v) ≡ Some c → ((p ≡ x) ⊎ (q ≡ x)) → Contains (c.first ∷ option_to_list c.second) x
in_pair p q v c x e i =
    let P : Closing → Type 0 = λ d. Contains (d.first ∷ option_to_list d.second) x in
    subst P (same_Some (pair_of p q v) c e)
    (elim i [ inl j ↦ rw j (Contains-here x (q ∷ [])) | inr j ↦ rw j (Contains-there p (x ∷ []) x (Contains-here x [])) ])

pub other : {A B : Type 0} → A ⊎ B → B ⊎ A
other (inl a) = inr a
other (inr b) = inl b

-- what two formulas close is what they use
pub pair-uses : (g f : Form) (c : Closing) → closing_of g f ≡ Some c → (x : Form) → ((g ≡ x) ⊎ (f ≡ x)) → Contains (c.first ∷ option_to_list c.second) x
pair-uses g f c e x i =
    elim (cond-cases (same f (Form.negation g)) _ _ _ e) [
      | inl a ↦ in_pair g f false c x a.1 i
      | inr a ↦ elim (cond-cases (same g (Form.negation f)) _ _ _ a.1) [
        | inl b ↦ in_pair f g false c x b.1 (other i)
        | inr b ↦ elim (cond-cases (is_swapped g f) _ _ _ b.1) [
          | inl d ↦ in_pair g f true c x d.1 i
          | inr d ↦ elim (cond-cases (is_swapped f g) _ _ _ d.1) [
            | inl j ↦ in_pair f g true c x j.1 (other i)
            | inr j ↦ absurd (let q = j.1 in cc)
          ]
        ]
      ]
    ]

pub closed_derives : (s : Setting) (b gamma : List Form) (c : Closing) → IsWithin (c.first ∷ option_to_list c.second) gamma → Closes b c → Derives s.symbols s.rules gamma
closed_derives s b gamma c w (inl (f, h, p, q)) =
    let P : Closing → Type 0 = λ d. Contains (d.first ∷ option_to_list d.second) f in
    alone-derives s gamma f (w f (subst P q (Contains-here f []))) p
closed_derives s b gamma c w (inr (g, f, hg, hf, p)) =
    pair-derives s gamma g f c (w g (pair-uses g f c p g (inl refl))) (w f (pair-uses g f c p f (inr refl))) p

pub of_pair : (b : List Form) (p q : Form) (v : Bool) (c : Closing) → Contains b p → Contains b q → Some (pair_of p q v) ≡ Some c → IsWithin (c.first ∷ option_to_list c.second) b
of_pair b p q v c hp hq e x i =
    let P : Closing → Type 0 = λ d. Contains (d.first ∷ option_to_list d.second) x in
    let Q : Form → Type 0 = λ y. Contains b y in
    elim (Contains-cases p (q ∷ []) x (subst P (sym (same_Some (pair_of p q v) c e)) i)) [
      | inl j ↦ subst Q j hp
      | inr j ↦ subst Q (only q x j) hq
    ]

pub pair-within : (b : List Form) (g f : Form) (c : Closing) → Contains b g → Contains b f → closing_of g f ≡ Some c → IsWithin (c.first ∷ option_to_list c.second) b
pair-within b g f c hg hf e =
    elim (cond-cases (same f (Form.negation g)) _ _ _ e) [
      | inl a ↦ of_pair b g f false c hg hf a.1
      | inr a ↦ elim (cond-cases (same g (Form.negation f)) _ _ _ a.1) [
        | inl d ↦ of_pair b f g false c hf hg d.1
        | inr d ↦ elim (cond-cases (is_swapped g f) _ _ _ d.1) [
          | inl i ↦ of_pair b g f true c hg hf i.1
          | inr i ↦ elim (cond-cases (is_swapped f g) _ _ _ i.1) [
            | inl j ↦ of_pair b f g true c hf hg j.1
            | inr j ↦ absurd (let q = j.1 in cc)
          ]
        ]
      ]
    ]

pub closed_within : (b : List Form) (c : Closing) → Closes b c → IsWithin (c.first ∷ option_to_list c.second) b
closed_within b c (inl (f, h, p, q)) x i =
    let P : Closing → Type 0 = λ d. Contains (d.first ∷ option_to_list d.second) x in
    let Q : Form → Type 0 = λ y. Contains b y in
    subst Q (only f x (subst P (sym q) i)) h
closed_within b c (inr (g, f, hg, hf, p)) x i = pair-within b g f c hg hf p x i
