-- What is left after white space and comments is an end of the text.
use Rattle.std.proofs.Common.{◌≡◌, ℕ, suc, ◌+◌, ◌-◌, ◌<◌, ◌≤◌, Bool, true, false, cond, List, [], ◌∷◌, length, take, drop, length-drop, Option, Some, None, refl, sym, ◌∙◌, ap, subst, arith, inl, inr, ◌⊎◌}
use Rattle.std.specs.Prelude.{◌==◌, ◌&&◌}
use Rattle.std.proofs.lemmas.List.{drop-drop, take_rest}
use Rattle.std.proofs.Math.ListN.{drop_of_length-le}
use Rattle.std.proofs.Math.Seq.{drop-length}
use Rattle.std.proofs.lemmas.Bool.{cases_lt}
use Rattle.std.proofs.lemmas.Option.{same_Some, none-some}
use Rattle.tptp_lex.specs.Blank.{after_line, after_block, after_slash, starts_with, one_blank, is_white, Skips, here, over}

pub record IsEnd (rest bytes : List ℕ) : Type 0 where
  pub from : ℕ
  pub same : rest ≡ drop from bytes

later : (b : ℕ) (rest bytes : List ℕ) → IsEnd rest bytes → IsEnd rest (b ∷ bytes)
later b rest bytes e = record { from = suc e.from; same = e.same }

line_step : (t : Bool) (b : ℕ) (bytes : List ℕ) → IsEnd (after_line bytes) bytes → IsEnd (cond t bytes (after_line bytes)) (b ∷ bytes)
line_step true b bytes e = record { from = 1; same = refl }
line_step false b bytes e = later b (after_line bytes) bytes e

line_end : (bytes : List ℕ) → IsEnd (after_line bytes) bytes
line_end [] = record { from = 0; same = refl }
line_end (b ∷ bytes) = line_step (b == 10) b bytes (line_end bytes)

block_step : (t : Bool) (b : ℕ) (bytes rest : List ℕ) → (after_block bytes ≡ Some rest → IsEnd rest bytes) → cond t (Some (drop 1 bytes)) (after_block bytes) ≡ Some rest → IsEnd rest (b ∷ bytes)
block_step true b bytes rest next e = record { from = 2; same = sym (same_Some (drop 1 bytes) rest e) }
block_step false b bytes rest next e = later b rest bytes (next e)

block_end : (bytes rest : List ℕ) → after_block bytes ≡ Some rest → IsEnd rest bytes
block_end [] rest e = absurd (none-some rest e)
block_end (b ∷ bytes) rest e = block_step (b == 42 && starts_with 47 bytes) b bytes rest (block_end bytes rest) e

either : (t : Bool) (x y : Option (List ℕ)) (r bytes : List ℕ) → cond t x y ≡ Some r → (x ≡ Some r → IsEnd r bytes) → (y ≡ Some r → IsEnd r bytes) → IsEnd r bytes
either true x y r bytes e p q = p e
either false x y r bytes e p q = q e

slash_end : (bytes rest : List ℕ) → after_slash bytes ≡ Some rest → IsEnd rest bytes
slash_end [] rest e = absurd (none-some rest e)
slash_end (b ∷ bytes) rest e = either (b == 42) (after_block bytes) None rest (b ∷ bytes) e (λ f. later b rest bytes (block_end bytes rest f)) (λ f. absurd (none-some rest f))

line_some : (bytes rest : List ℕ) → Some (after_line bytes) ≡ Some rest → IsEnd rest bytes
line_some bytes rest e = let l = line_end bytes in record { from = l.from; same = sym (same_Some (after_line bytes) rest e) ∙ l.same }

blank_end : (bytes rest : List ℕ) → one_blank bytes ≡ Some rest → IsEnd rest bytes
blank_end [] rest e = absurd (none-some rest e)
blank_end (b ∷ bytes) rest e =
    either (is_white b) (Some bytes) (cond (b == 37) (Some (after_line bytes)) (cond (b == 47) (after_slash bytes) None)) rest (b ∷ bytes) e
    (λ f. record { from = 1; same = sym (same_Some bytes rest f) })
    (λ f. either (b == 37) (Some (after_line bytes)) (cond (b == 47) (after_slash bytes) None) rest (b ∷ bytes) f
    (λ g. later b rest bytes (line_some bytes rest g))
    (λ g. either (b == 47) (after_slash bytes) None rest (b ∷ bytes) g (λ h. later b rest bytes (slash_end bytes rest h)) (λ h. absurd (none-some rest h))))

pub skips_end : (bytes rest : List ℕ) → Skips bytes rest → IsEnd rest bytes
skips_end bytes rest (here e) = record { from = 0; same = refl }
skips_end bytes rest (over {after = after} e skips) =
    let first = blank_end bytes after e in
    let next = skips_end after rest skips in
    record { from = first.from + next.from; same = next.same ∙ ap (drop next.from) first.same ∙ drop-drop next.from first.from bytes }

-- white space and comments lead to one place alone
pub one_end : (bytes xs ys : List ℕ) → Skips bytes xs → Skips bytes ys → xs ≡ ys
one_end bytes xs ys (here e) (here f) = refl
one_end bytes xs ys (here e) (over {after = after} f q) = absurd (none-some after (sym e ∙ f))
one_end bytes xs ys (over {after = after} e p) (here f) = absurd (none-some after (sym f ∙ e))
one_end bytes xs ys (over {after = a} e p) (over {after = b} f q) =
    let same : a ≡ b = same_Some a b (sym e ∙ f) in
    one_end a xs ys p (subst (λ (ts : List ℕ). Skips ts ys) (sym same) q)

-- an end of the text begins where its length says
end_here : (bytes rest : List ℕ) (k : ℕ) → rest ≡ drop k bytes → (k < length bytes) ⊎ (length bytes ≤ k) → rest ≡ drop (length bytes - length rest) bytes
end_here bytes rest k e (inl lt) =
    let long : length rest ≡ length bytes - k = ap length e ∙ length-drop k bytes in
    let same : k ≡ length bytes - length rest = omega arith in
    e ∙ ap (λ n. drop n bytes) same
end_here bytes rest k e (inr le) =
    let none : rest ≡ [] = e ∙ drop_of_length-le bytes le in
    let whole : length bytes - length rest ≡ length bytes = (let l : length rest ≡ 0 = ap length none in omega arith) in
    none ∙ sym (ap (λ n. drop n bytes) whole ∙ drop-length bytes)

pub skips_place : (bytes rest : List ℕ) (at : ℕ) → Skips (take (length bytes - at) (drop at bytes)) rest → Skips (drop at bytes) (drop (length bytes - length rest) bytes) × (rest ≡ drop (length bytes - length rest) bytes)
skips_place bytes rest at skips =
    let whole = subst (λ (ts : List ℕ). Skips ts rest) (take_rest bytes at) skips in
    let end = skips_end (drop at bytes) rest whole in
    let e : rest ≡ drop (at + end.from) bytes = end.same ∙ drop-drop end.from at bytes in
    let place = end_here bytes rest (at + end.from) e (cases_lt (at + end.from) (length bytes)) in
    (subst (λ (r : List ℕ). Skips (drop at bytes) r) place whole, place)
