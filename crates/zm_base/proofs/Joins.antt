-- Two calls in a row are as one.
use Rattle.std.proofs.Common.{◌≡◌, ℕ, ◌+◌, ◌-◌, ◌≤◌, min, sym, ◌∙◌, ap, subst, List, ◌++◌, length, take, drop, append_assoc, arith, Option, Some, None}
use Rattle.std.specs.Option.{option_map}
use Rattle.std.proofs.Math.Seq.{take-add}
use Rattle.std.proofs.lemmas.List.{take-append-drop, drop-drop, take_rest, take-take, take-append-le, length-take, length-append}
use Rattle.zm_base.specs.Outside.{IsFront, ReadsAtMost, Takes, Counts, last_count}

pub left_splits : (bytes : List ℕ) (at n : ℕ) → drop at bytes ≡ take n (drop at bytes) ++ drop (at + n) bytes
left_splits bytes at n = sym (take-append-drop n (drop at bytes)) ∙ ap (λ r. take n (drop at bytes) ++ r) (drop-drop n at bytes)

pub fronts_join : (a b : List ℕ) (x y z : Option (List ℕ)) → IsFront a x y → IsFront b y z → IsFront (a ++ b) x z
fronts_join a b x y None p q = p ∙ ap (option_map (λ rest. a ++ rest)) q
fronts_join a b x y (Some r) p q = p ∙ ap (option_map (λ rest. a ++ rest)) q ∙ ap Some (sym (append_assoc a b r))

pub reads_join : (a : List ℕ) (more most : ℕ) (x y z : Option (List ℕ)) → IsFront a x y → ReadsAtMost more y z → length a + more ≤ most → ReadsAtMost most x z
reads_join a more most x y z p q within = record {
  got = a ++ q.got;
  within = simp length-append (omega (arith, q.within));
  front = fronts_join a q.got x y z p q.front;
}

pub takes_join : (a b : List ℕ) (x y z : Option (List ℕ)) → Takes a x y → Takes b y z → Takes (a ++ b) x z
takes_join a b None y z p q = q ∙ ap (option_map (λ held. held ++ b)) p
takes_join a b (Some h) y z p q = q ∙ ap (option_map (λ held. held ++ b)) p ∙ ap Some (append_assoc h a b)

min_twice : (t m n : ℕ) → min (min (t + m) last_count + n) last_count ≡ min (t + (m + n)) last_count
min_twice t m n = omega arith

pub counts_join : (m n : ℕ) (x y z : Option ℕ) → Counts m x y → Counts n y z → Counts (m + n) x z
counts_join m n None y z p q = q ∙ ap (option_map (λ t. min (t + n) last_count)) p
counts_join m n (Some t) y z p q = q ∙ ap (option_map (λ t. min (t + n) last_count)) p ∙ ap Some (min_twice t m n)

pub take_joins : (bytes : List ℕ) (at n : ℕ) → take at bytes ++ take n (drop at bytes) ≡ take (at + n) bytes
take_joins bytes at n = sym (take-add at n bytes)

-- What was put over the front of a buffer is its front now.
pub front_put : (front buffer now : List ℕ) (n : ℕ) → n ≤ length front → now ≡ take n front ++ drop n buffer → take n now ≡ take n front
front_put front buffer now n within put =
    let fits : n ≤ length (take n front) = simp length-take (omega arith) in
    ap (take n) put ∙ take-append-le n (take n front) (drop n buffer) fits ∙ take-take n n front (omega arith)

-- What was left is what a buffer got and what is left now.
pub front_read : (bytes slice buffer now : List ℕ) (at n : ℕ) → slice ≡ bytes → n ≤ length (take (length slice - at) (drop at slice)) → now ≡ take n (take (length slice - at) (drop at slice)) ++ drop n buffer → Some (drop at bytes) ≡ Some (take n now ++ drop (at + n) bytes)
front_read bytes slice buffer now at n same within put =
    let rest : take (length slice - at) (drop at slice) ≡ drop at bytes = take_rest slice at ∙ ap (drop at) same in
    let got : take n now ≡ take n (drop at bytes) = front_put _ buffer now n within put ∙ ap (take n) rest in
    ap Some (left_splits bytes at n ∙ ap (λ f. f ++ drop (at + n) bytes) (sym got))

pub takes_more : (bytes : List ℕ) (at n : ℕ) (x y z : Option (List ℕ)) → Takes (take at bytes) x y → Takes (take n (take (length bytes - at) (drop at bytes))) y z → Takes (take (at + n) bytes) x z
takes_more bytes at n x y z p q = let P : List ℕ → Type 0 = λ b. Takes b x z in subst P (ap (λ b. take at bytes ++ take n b) (take_rest bytes at) ∙ take_joins bytes at n) (takes_join (take at bytes) (take n (take (length bytes - at) (drop at bytes))) x y z p q)
