-- The words of the slow readers, forwards and backwards.
use Rattle.std.proofs.Common.{◌≡◌, List, [], ◌∷◌, ◌++◌, map, Option, Some, None, refl, ◌∙◌, ap, subst}
use Rattle.std.proofs.lemmas.List.{map-append}
use Rattle.std.proofs.lemmas.Option.{some_pair_parts, none-some, same_Some}
use Rattle.tptp_lex.specs.declared.signs.Sign.{Sign}
use Rattle.tptp_reader.specs.Tokens.{Token, sign}
use Rattle.tptp_reader.specs.Parsing.{behind, then}
use Rattle.tptp_reader.specs.SlowLists.{made, ended_by}
use Rattle.tptp_reader.proofs.Behind.{behind_sign, behind_back}

-- what holds of one thing read holds of another that is the same
pub same_read : {A : Type 0} (P : List Token → A → Type 0) (x y : A) (tokens rest : List Token) → ◌≡◌ {A = Option (A × List Token)} (Some (x, tokens)) (Some (y, rest)) → P tokens x → P rest y
same_read {A} P x y tokens rest e p = subst (λ (q : A × List Token). P q.1 q.0) (same_Some (x, tokens) (y, rest) e) p

-- what stands between
pub record Between {A B : Type 0} (r : Option A) (k : A → Option B) (y : B) : Type 0 where
  pub middle : A
  pub first : r ≡ Some middle
  pub second : k middle ≡ Some y

pub then_back : {A B : Type 0} (r : Option A) (k : A → Option B) (y : B) → then r k ≡ Some y → Between r k y
then_back None k y e = absurd (none-some y e)
then_back (Some x) k y e = record { middle = x; first = refl; second = e }

pub record Made {A B : Type 0} (make : A → B) (read : Option (A × List Token)) (y : B) (rest : List Token) : Type 0 where
  pub from : A
  pub makes : make from ≡ y
  pub reads : read ≡ Some (from, rest)

pub made_back : {A B : Type 0} (make : A → B) (read : Option (A × List Token)) (y : B) (rest : List Token) → made make read ≡ Some (y, rest) → Made make read y rest
made_back make None y rest e = absurd (none-some (y, rest) e)
made_back make (Some x) y rest e =
    let same = some_pair_parts (make x.0) y x.1 rest e in
    record { from = x.0; makes = same.0; reads = ap (λ (ts : List Token). Some (x.0, ts)) same.1 }

pub made_goes : {A B : Type 0} (make : A → B) (read : Option (A × List Token)) (x : A) (rest : List Token) → read ≡ Some (x, rest) → made make read ≡ Some (make x, rest)
made_goes make read x rest e = ap (made make) e

ended_at : {A : Type 0} (s : Sign) (x y : A) (tokens rest : List Token) (r : Option (List Token)) → behind s tokens ≡ r → then {B = A × List Token} r (λ rest. Some (x, rest)) ≡ Some (y, rest) → ◌≡◌ {A = Option (A × List Token)} (Some (x, tokens)) (Some (y, sign s ∷ rest))
ended_at s x y tokens rest None b e = absurd (none-some _ e)
ended_at {A} s x y tokens rest (Some after) b e =
    let same = some_pair_parts x y after rest e in
    ap (λ (ts : List Token). Some (x, ts)) (behind_back s tokens after b) ∙ ap (λ (q : A × List Token). Some (q.0, sign s ∷ q.1)) (same_Some (x, after) (y, rest) e)

pub ended_back : {A : Type 0} (s : Sign) (read : Option (A × List Token)) (x : A) (rest : List Token) → ended_by s read ≡ Some (x, rest) → read ≡ Some (x, sign s ∷ rest)
ended_back s None x rest e = absurd (none-some (x, rest) e)
ended_back s (Some y) x rest e = ended_at s y.0 x y.1 rest (behind s y.1) refl e

pub ended_goes : {A : Type 0} (s : Sign) (read : Option (A × List Token)) (x : A) (rest : List Token) → read ≡ Some (x, sign s ∷ rest) → ended_by s read ≡ Some (x, rest)
ended_goes {A} s read x rest e = ap (ended_by s) e ∙ ap (λ r. then {B = A × List Token} r (λ rest. Some (x, rest))) (behind_sign s rest)

-- a list with one more, seen item by item
pub map_pushed : {A B : Type 0} (f : A → B) (xs ys : List A) (x : A) → ys ≡ xs ++ x ∷ [] → map f ys ≡ map f xs ++ f x ∷ []
map_pushed f xs ys x e = ap (map f) e ∙ map-append f xs (x ∷ [])

-- a list behind another, seen item by item
pub map_appended : {A B : Type 0} (f : A → B) (xs ys : List A) → map f (xs ++ ys) ≡ map f xs ++ map f ys
map_appended f xs ys = map-append f xs ys
