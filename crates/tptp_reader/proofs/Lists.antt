-- A list of items with a sign between, as it is read.
use Rattle.std.proofs.Common.{◌≡◌, ◌≤◌, ℕ, zero, suc, List, [], ◌∷◌, ◌++◌, length, Option, Some, None, refl, sym, ◌∙◌, ap, subst, arith, append_assoc}
use Rattle.std.proofs.lemmas.Option.{none-some, same_Some}
use Rattle.tptp_lex.specs.declared.signs.Sign.{Sign}
use Rattle.tptp_reader.specs.Tokens.{Token, sign}
use Rattle.tptp_reader.specs.Parsing.{first_sign, behind, then}
use Rattle.tptp_reader.specs.SlowLists.{goes_on, followed, followed_all, separated}
use Rattle.tptp_reader.proofs.Behind.{behind_sign, behind_none, behind_back, behind_shorter}

-- an item leaves no more tokens than there were
pub record Shrinks {A : Type 0} (item : List Token → Option (A × List Token)) : Type 0 where
  pub fewer : (tokens : List Token) (x : A) (rest : List Token) → item tokens ≡ Some (x, rest) → length rest ≤ length tokens

item_enough : {A : Type 0} (item : List Token → Option (A × List Token)) → Shrinks item → (between : Sign) (n m : ℕ) (xs : List A) (tokens : List Token) (q : Option (A × List Token)) → item tokens ≡ q → length tokens ≤ n → length tokens ≤ m →
    ((ys : List A) (rest : List Token) → length rest ≤ n → length rest ≤ m → followed item between n ys rest ≡ followed item between m ys rest) →
    then q (λ x. followed item between n (xs ++ x.0 ∷ []) x.1) ≡ then q (λ x. followed item between m (xs ++ x.0 ∷ []) x.1)
item_enough item s between n m xs tokens None e p q ih = refl
item_enough item s between n m xs tokens (Some x) e p q ih =
    let short = s.fewer tokens x.0 x.1 e in ih (xs ++ x.0 ∷ []) x.1 (omega arith) (omega arith)

step_enough : {A : Type 0} (item : List Token → Option (A × List Token)) → Shrinks item → (between : Sign) (n m : ℕ) (xs : List A) (tokens : List Token) (r : Option (List Token)) → behind between tokens ≡ r → length tokens ≤ suc n → length tokens ≤ suc m →
    ((ys : List A) (rest : List Token) → length rest ≤ n → length rest ≤ m → followed item between n ys rest ≡ followed item between m ys rest) →
    goes_on r (λ rest. then (item rest) (λ x. followed item between n (xs ++ x.0 ∷ []) x.1)) (Some (xs, tokens)) ≡ goes_on r (λ rest. then (item rest) (λ x. followed item between m (xs ++ x.0 ∷ []) x.1)) (Some (xs, tokens))
step_enough item s between n m xs tokens None e p q ih = refl
step_enough item s between n m xs tokens (Some rest) e p q ih =
    let short = behind_shorter between tokens rest e in item_enough item s between n m xs rest (item rest) refl (omega arith) (omega arith) ih

-- more turns than tokens change nothing
pub enough : {A : Type 0} (item : List Token → Option (A × List Token)) → Shrinks item → (between : Sign) (n m : ℕ) (xs : List A) (tokens : List Token) → length tokens ≤ n → length tokens ≤ m → followed item between n xs tokens ≡ followed item between m xs tokens
enough item s between zero zero xs tokens p q = refl
enough item s between zero (suc m) xs [] p q = refl
enough item s between zero (suc m) xs (t ∷ tokens) p q = absurd (omega arith)
enough item s between (suc n) zero xs [] p q = refl
enough item s between (suc n) zero xs (t ∷ tokens) p q = absurd (omega arith)
enough item s between (suc n) (suc m) xs tokens p q =
    step_enough item s between n m xs tokens (behind between tokens) refl p q (λ ys rest u v. enough item s between n m ys rest u v)

next_enough : {A : Type 0} (item : List Token → Option (A × List Token)) → Shrinks item → (between : Sign) (xs : List A) (middle : List Token) (q : Option (A × List Token)) → item middle ≡ q →
    then q (λ x. followed item between (length middle) (xs ++ x.0 ∷ []) x.1) ≡ then q (λ x. followed_all item between (xs ++ x.0 ∷ []) x.1)
next_enough item s between xs middle None e = refl
next_enough item s between xs middle (Some x) e =
    let short = s.fewer middle x.0 x.1 e in enough item s between (length middle) (length x.1) (xs ++ x.0 ∷ []) x.1 short (omega arith)

-- one more item, behind the sign
pub followed_next : {A : Type 0} (item : List Token → Option (A × List Token)) → Shrinks item → (between : Sign) (xs : List A) (middle : List Token) →
    followed_all item between xs (sign between ∷ middle) ≡ then (item middle) (λ x. followed_all item between (xs ++ x.0 ∷ []) x.1)
followed_next item s between xs middle =
    ap (λ r. goes_on r (λ rest. then (item rest) (λ x. followed item between (length middle) (xs ++ x.0 ∷ []) x.1)) (Some (xs, sign between ∷ middle))) (behind_sign between middle)
    ∙ next_enough item s between xs middle (item middle) refl

followed_end : {A : Type 0} (item : List Token → Option (A × List Token)) (between : Sign) (n : ℕ) (xs : List A) (tokens : List Token) → behind between tokens ≡ None → followed item between n xs tokens ≡ Some (xs, tokens)
followed_end item between zero xs tokens e = refl
followed_end item between (suc n) xs tokens e =
    ap (λ r. goes_on r (λ rest. then (item rest) (λ x. followed item between n (xs ++ x.0 ∷ []) x.1)) (Some (xs, tokens))) e

-- where the sign doesn't come next, no more items follow
pub followed_stops : {A : Type 0} (item : List Token → Option (A × List Token)) (between : Sign) (xs : List A) (tokens : List Token) → (first_sign tokens ≡ Some between → ⊥) → followed_all item between xs tokens ≡ Some (xs, tokens)
followed_stops item between xs tokens differs = followed_end item between (length tokens) xs tokens (behind_none between tokens differs)

-- one more turn of a loop
pub loop_goes : {A : Type 0} (item : List Token → Option (A × List Token)) → Shrinks item → (between : Sign) (xs ys : List A) (tokens middle : List Token) (x : A) (rest : List Token) (start : Option (List A × List Token)) →
    tokens ≡ sign between ∷ middle → item middle ≡ Some (x, rest) → ys ≡ xs ++ x ∷ [] → followed_all item between xs tokens ≡ start → followed_all item between ys rest ≡ start
loop_goes item s between xs ys tokens middle x rest start e r w same =
    ap (λ zs. followed_all item between zs rest) w
    ∙ sym (ap (followed_all item between xs) e ∙ followed_next item s between xs middle ∙ ap (λ q. then q (λ x. followed_all item between (xs ++ x.0 ∷ []) x.1)) r)
    ∙ same

-- a turn of a loop at which no item stands
pub loop_fails : {A : Type 0} (item : List Token → Option (A × List Token)) → Shrinks item → (between : Sign) (xs : List A) (tokens middle : List Token) (start : Option (List A × List Token)) →
    tokens ≡ sign between ∷ middle → item middle ≡ None → followed_all item between xs tokens ≡ start → start ≡ None
loop_fails item s between xs tokens middle start e r same =
    sym same ∙ ap (followed_all item between xs) e ∙ followed_next item s between xs middle ∙ ap (λ q. then q (λ x. followed_all item between (xs ++ x.0 ∷ []) x.1)) r

-- One item after another, with the sign between.
pub data Chain {A : Type 0} (item : List Token → Option (A × List Token)) (between : Sign) : List Token → List Token → List A → Type 0 where
  last : {tokens rest : List Token} {x : A} → item tokens ≡ Some (x, rest) → Chain item between tokens rest (x ∷ [])
  more : {tokens middle rest : List Token} {x : A} {xs : List A} → item tokens ≡ Some (x, sign between ∷ middle) → Chain item between middle rest xs → Chain item between tokens rest (x ∷ xs)

chain_goes : {A : Type 0} (item : List Token → Option (A × List Token)) → Shrinks item → (between : Sign) (tokens rest : List Token) (xs : List A) → Chain item between tokens rest xs → behind between rest ≡ None → (ys : List A) →
    then (item tokens) (λ x. followed_all item between (ys ++ x.0 ∷ []) x.1) ≡ Some (ys ++ xs, rest)
chain_goes item s between tokens rest _ (last {x = x} e) h ys =
    ap (λ q. then q (λ x. followed_all item between (ys ++ x.0 ∷ []) x.1)) e ∙ followed_end item between (length rest) (ys ++ x ∷ []) rest h
chain_goes item s between tokens rest _ (more {middle = middle} {x = x} {xs = xs} e c) h ys =
    ap (λ q. then q (λ x. followed_all item between (ys ++ x.0 ∷ []) x.1)) e
    ∙ followed_next item s between (ys ++ x ∷ []) middle
    ∙ chain_goes item s between middle rest xs c h (ys ++ x ∷ [])
    ∙ ap (λ (zs : List _). Some (zs, rest)) (append_assoc ys (x ∷ []) xs)

-- a chain is read, where the sign doesn't follow it
pub chain_read : {A : Type 0} (item : List Token → Option (A × List Token)) → Shrinks item → (between : Sign) (tokens rest : List Token) (xs : List A) → Chain item between tokens rest xs → behind between rest ≡ None → separated item between tokens ≡ Some (xs, rest)
chain_read item s between tokens rest xs c h = chain_goes item s between tokens rest xs c h []

-- what a list that was read holds
record Found {A : Type 0} (item : List Token → Option (A × List Token)) (between : Sign) (tokens rest : List Token) (zs ys : List A) : Type 0 where
  xs : List A
  whole : ys ≡ zs ++ xs
  chain : Chain item between tokens rest xs

pair_left : {A : Type 0} (xs ys : List A) (tokens rest : List Token) → ◌≡◌ {A = Option (List A × List Token)} (Some (xs, tokens)) (Some (ys, rest)) → xs ≡ ys
pair_left {A} xs ys tokens rest e = ap (λ (p : List A × List Token). p.0) (same_Some (xs, tokens) (ys, rest) e)

pair_right : {A : Type 0} (xs ys : List A) (tokens rest : List Token) → ◌≡◌ {A = Option (List A × List Token)} (Some (xs, tokens)) (Some (ys, rest)) → tokens ≡ rest
pair_right {A} xs ys tokens rest e = ap (λ (p : List A × List Token). p.1) (same_Some (xs, tokens) (ys, rest) e)

found_last : {A : Type 0} (item : List Token → Option (A × List Token)) (between : Sign) (zs : List A) (t0 tokens : List Token) (x : A) (ys : List A) (rest : List Token) → item t0 ≡ Some (x, tokens) → ◌≡◌ {A = Option (List A × List Token)} (Some (zs ++ x ∷ [], tokens)) (Some (ys, rest)) → Found item between t0 rest zs ys
found_last item between zs t0 tokens x ys rest e h = record {
  xs = x ∷ [];
  whole = sym (pair_left (zs ++ x ∷ []) ys tokens rest h);
  chain = last (e ∙ ap (λ (ts : List Token). Some (x, ts)) (pair_right (zs ++ x ∷ []) ys tokens rest h));
}

-- what is found with so many turns
abbrev Finds : {A : Type 0} → (List Token → Option (A × List Token)) → Sign → ℕ → List A → List Token → Type 0
Finds {A} item between n ys rest = (zs : List A) (t0 tokens : List Token) (x : A) → item t0 ≡ Some (x, tokens) → followed item between n (zs ++ x ∷ []) tokens ≡ Some (ys, rest) → Found item between t0 rest zs ys

found_item : {A : Type 0} (item : List Token → Option (A × List Token)) (between : Sign) (n : ℕ) (ys : List A) (rest : List Token) → Finds item between n ys rest → (zs : List A) (t0 tokens : List Token) (x : A) → item t0 ≡ Some (x, tokens) →
    (middle : List Token) → behind between tokens ≡ Some middle → (q : Option (A × List Token)) → item middle ≡ q → then q (λ y. followed item between n ((zs ++ x ∷ []) ++ y.0 ∷ []) y.1) ≡ Some (ys, rest) → Found item between t0 rest zs ys
found_item item between n ys rest ih zs t0 tokens x e middle b None i h = absurd (none-some _ h)
found_item item between n ys rest ih zs t0 tokens x e middle b (Some y) i h =
    let later = ih (zs ++ x ∷ []) middle y.1 y.0 i h in
    record {
      xs = x ∷ later.xs;
      whole = later.whole ∙ append_assoc zs (x ∷ []) later.xs;
      chain = more (e ∙ ap (λ (ts : List Token). Some (x, ts)) (behind_back between tokens middle b)) later.chain;
    }

found_behind : {A : Type 0} (item : List Token → Option (A × List Token)) (between : Sign) (n : ℕ) (ys : List A) (rest : List Token) → Finds item between n ys rest → (zs : List A) (t0 tokens : List Token) (x : A) → item t0 ≡ Some (x, tokens) →
    (r : Option (List Token)) → behind between tokens ≡ r → goes_on r (λ rest. then (item rest) (λ y. followed item between n ((zs ++ x ∷ []) ++ y.0 ∷ []) y.1)) (Some (zs ++ x ∷ [], tokens)) ≡ Some (ys, rest) → Found item between t0 rest zs ys
found_behind item between n ys rest ih zs t0 tokens x e None b h = found_last item between zs t0 tokens x ys rest e h
found_behind item between n ys rest ih zs t0 tokens x e (Some middle) b h = found_item item between n ys rest ih zs t0 tokens x e middle b (item middle) refl h

found_from : {A : Type 0} (item : List Token → Option (A × List Token)) (between : Sign) (n : ℕ) (ys : List A) (rest : List Token) → Finds item between n ys rest
found_from item between zero ys rest zs t0 tokens x e h = found_last item between zs t0 tokens x ys rest e h
found_from item between (suc n) ys rest zs t0 tokens x e h = found_behind item between n ys rest (found_from item between n ys rest) zs t0 tokens x e (behind between tokens) refl h

found_first : {A : Type 0} (item : List Token → Option (A × List Token)) (between : Sign) (tokens : List Token) (ys : List A) (rest : List Token) (q : Option (A × List Token)) → item tokens ≡ q → then q (λ x. followed_all item between (x.0 ∷ []) x.1) ≡ Some (ys, rest) → Found item between tokens rest [] ys
found_first item between tokens ys rest None e h = absurd (none-some _ h)
found_first item between tokens ys rest (Some x) e h = found_from item between (length x.1) ys rest [] tokens x.1 x.0 e h

-- a list that was read is a chain
pub read_chain : {A : Type 0} (item : List Token → Option (A × List Token)) (between : Sign) (tokens : List Token) (ys : List A) (rest : List Token) → separated item between tokens ≡ Some (ys, rest) → Chain item between tokens rest ys
read_chain item between tokens ys rest h =
    let found = found_first item between tokens ys rest (item tokens) refl h in
    subst (λ (zs : List _). Chain item between tokens rest zs) (sym found.whole) found.chain

-- the same, of what follows a first item
pub followed_chain : {A : Type 0} (item : List Token → Option (A × List Token)) (between : Sign) (t0 tokens : List Token) (x : A) (ys : List A) (rest : List Token) → item t0 ≡ Some (x, tokens) → followed_all item between (x ∷ []) tokens ≡ Some (ys, rest) → Chain item between t0 rest ys
followed_chain item between t0 tokens x ys rest e h =
    let found = found_from item between (length tokens) ys rest [] t0 tokens x e h in
    subst (λ (zs : List _). Chain item between t0 rest zs) (sym found.whole) found.chain

-- a list of items takes a token at least where each takes none back
pub chain_shrinks : {A : Type 0} (item : List Token → Option (A × List Token)) → Shrinks item → (between : Sign) (tokens rest : List Token) (xs : List A) → Chain item between tokens rest xs → length rest ≤ length tokens
chain_shrinks item s between tokens rest _ (last {x = x} e) = s.fewer tokens x rest e
chain_shrinks item s between tokens rest _ (more {middle = middle} {x = x} {xs = xs} e c) =
    let h = s.fewer tokens x (sign between ∷ middle) e in let k = chain_shrinks item s between middle rest xs c in omega arith

-- what follows the first item of a chain is read
pub chain_followed : {A : Type 0} (item : List Token → Option (A × List Token)) → Shrinks item → (between : Sign) (tokens middle rest : List Token) (x : A) (xs : List A) → item tokens ≡ Some (x, middle) → Chain item between tokens rest xs → behind between rest ≡ None →
    followed_all item between (x ∷ []) middle ≡ Some (xs, rest)
chain_followed item s between tokens middle rest x xs e c h =
    sym (ap (λ q. then q (λ x. followed_all item between (x.0 ∷ []) x.1)) e) ∙ chain_read item s between tokens rest xs c h
