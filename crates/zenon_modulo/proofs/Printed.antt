-- What is printed, from one place on.
use Rattle.std.proofs.Common.{map, take, Bool, nat_eq, append_assoc, sym, ◌∙◌, ◌++◌, ℕ, zero, suc, ◌≡◌, ◌+◌, ◌<◌, ◌≤◌, true, false, ◌&&◌, List, [], ◌∷◌, length, get_or, drop, refl, arith, ap}
use Rattle.std.specs.List.{list_all}
use Rattle.std.proofs.lemmas.List.{drop_more, drop_all, take_more, append-nil}
use Rattle.std.proofs.lemmas.Bool.{ne_eqb}
use Rattle.tptp_lex.specs.Words.{is_word}
use Rattle.zm_logic.specs.declared.problem.Symbol.{Symbol}
use Rattle.zm_logic.specs.declared.tree.Ty.{Ty}
use Rattle.zm_logic.specs.declared.tree.Term.{Term}
use Rattle.zm_logic.specs.View.{type_tree, types_tree, term_tree, terms_tree}
use Rattle.zenon_modulo.specs.Names.{Name, name_text, nth_text, no_types, no_terms, mark_text, type_text, types_text, term_text, terms_text}

pub words_here : (bytes : List ℕ) (i d : ℕ) → i < length bytes → is_word (get_or bytes i d) ≡ false → list_all is_word (drop i bytes) ≡ false
words_here bytes i d h e = rw (drop_more bytes i d h) (ap (λ b. b && list_all is_word (drop (i + 1) bytes)) e)

pub words_later : (bytes : List ℕ) (i d : ℕ) → i < length bytes → is_word (get_or bytes i d) ≡ true → list_all is_word (drop i bytes) ≡ list_all is_word (drop (i + 1) bytes)
words_later bytes i d h e = rw (drop_more bytes i d h) (ap (λ b. b && list_all is_word (drop (i + 1) bytes)) e)

pub words_end : (bytes : List ℕ) (i : ℕ) → length bytes ≤ i → list_all is_word (drop i bytes) ≡ true
words_end bytes i h = rw (drop_all i bytes h)

pub nth_at : (ss : List Symbol) (i : ℕ) (d : Symbol) → i < length ss → nth_text (map (λ x. x.name) ss) i ≡ name_text ((get_or ss i d).name)
nth_at [] i d h = absurd (omega arith)
nth_at (x ∷ xs) zero d h = refl
nth_at (x ∷ xs) (suc i) d h = nth_at xs i d (omega arith)

pub nth_beyond : (ss : List Symbol) (i : ℕ) → length ss ≤ i → nth_text (map (λ x. x.name) ss) i ≡ []
nth_beyond [] i h = refl
nth_beyond (x ∷ xs) zero h = absurd (omega arith)
nth_beyond (x ∷ xs) (suc i) h = nth_beyond xs i (omega arith)

pub some_types : (ts : List Ty) → 1 ≤ length ts → no_types (types_tree ts) ≡ false
some_types [] h = absurd (omega arith)
some_types (t ∷ ts) h = refl

pub some_terms : (us : List Term) → 1 ≤ length us → no_terms (terms_tree us) ≡ false
some_terms [] h = absurd (omega arith)
some_terms (u ∷ us) h = refl

-- Arguments, each behind its mark.

module _ {X : Type 0} where
  -- the next argument is the first
  abbrev is_first : Bool → List X → Bool
  is_first b [] = b
  is_first b (x ∷ xs) = false

  first_false : (xs : List X) → is_first false xs ≡ false
  first_false [] = refl
  first_false (x ∷ xs) = refl

  first_of_taken : (b : Bool) (xs : List X) (i : ℕ) → i ≤ length xs → is_first b (take i xs) ≡ (b && nat_eq i 0)
  first_of_taken true xs zero h = refl
  first_of_taken false xs zero h = refl
  first_of_taken b [] (suc i) h = absurd (omega arith)
  first_of_taken true (x ∷ xs) (suc i) h = sym (ne_eqb (suc i) 0 (λ e. cc))
  first_of_taken false (x ∷ xs) (suc i) h = refl

module _ {X : Type 0} (show : X → List ℕ) (shown : Bool → List X → List ℕ) (none : (b : Bool) → shown b [] ≡ [])
    (more : (b : Bool) (x : X) (xs : List X) → shown b (x ∷ xs) ≡ mark_text b ++ show x ++ shown false xs) where
  shown_push : (xs : List X) (x : X) (b : Bool) → shown b (xs ++ x ∷ []) ≡ shown b xs ++ (mark_text (is_first b xs) ++ show x)
  shown_push [] x b =
      more b x [] ∙ ap (λ r. mark_text b ++ show x ++ r) (none false) ∙ append-nil (mark_text b ++ show x)
      ∙ ap (λ r. r ++ (mark_text b ++ show x)) (sym (none b))
  shown_push (y ∷ xs) x b =
      let front = mark_text b ++ show y in
      more b y (xs ++ x ∷ []) ∙ ap (λ r. front ++ r) (shown_push xs x false)
      ∙ sym (append_assoc front (shown false xs) (mark_text (is_first false xs) ++ show x))
      ∙ ap (λ c. (front ++ shown false xs) ++ (mark_text c ++ show x)) (first_false xs)
      ∙ ap (λ r. r ++ (mark_text false ++ show x)) (sym (more b y xs))

  shown_step : (b : Bool) (start before middle after : List ℕ) (xs : List X) (i : ℕ) (d : X) → i < length xs
      → before ≡ start ++ shown b (take i xs) → middle ≡ before ++ mark_text (b && nat_eq i 0)
      → after ≡ middle ++ show (get_or xs i d) → after ≡ start ++ shown b (take (i + 1) xs)
  shown_step b start before middle after xs i d h p m a =
      let x = get_or xs i d in
      let mark = mark_text (b && nat_eq i 0) in
      let taken = shown b (take i xs) in
      let q : shown b (take (i + 1) xs) ≡ taken ++ (mark ++ show x) =
      ap (shown b) (take_more xs i d h) ∙ shown_push (take i xs) x b
      ∙ ap (λ c. taken ++ (mark_text c ++ show x)) (first_of_taken b xs i (omega arith)) in
      a ∙ ap (λ y. y ++ show x) (m ∙ ap (λ y. y ++ mark) p)
      ∙ append_assoc (start ++ taken) mark (show x)
      ∙ append_assoc start taken (mark ++ show x)
      ∙ ap (λ y. start ++ y) (sym q)

pub types_step : (names : List Name) (start before middle after : List ℕ) (ts : List Ty) (i : ℕ) (d : Ty) → i < length ts
    → before ≡ start ++ types_text names true (types_tree (take i ts)) → middle ≡ before ++ mark_text (nat_eq i 0)
    → after ≡ middle ++ type_text names (type_tree (get_or ts i d)) → after ≡ start ++ types_text names true (types_tree (take (i + 1) ts))
types_step names start before middle after ts i d h b m a =
    shown_step (λ t. type_text names (type_tree t)) (λ b ts. types_text names b (types_tree ts)) (λ b. refl) (λ b t ts. refl) true
    start before middle after ts i d h b m a

pub terms_step : (names : List Name) (is_first : Bool) (start before middle after : List ℕ) (us : List Term) (i : ℕ) (d : Term) → i < length us
    → before ≡ start ++ terms_text names is_first (terms_tree (take i us)) → middle ≡ before ++ mark_text (is_first && nat_eq i 0)
    → after ≡ middle ++ term_text names (term_tree (get_or us i d)) → after ≡ start ++ terms_text names is_first (terms_tree (take (i + 1) us))
terms_step names first start before middle after us i d h b m a =
    shown_step (λ u. term_text names (term_tree u)) (λ b us. terms_text names b (terms_tree us)) (λ b. refl) (λ b u us. refl) first
    start before middle after us i d h b m a
