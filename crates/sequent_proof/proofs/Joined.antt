-- Two writes in a row are as one.
use Rattle.std.proofs.Common.{◌≡◌, false, ℕ, ◌+◌, ◌≤◌, List, ◌++◌, length, take, Result, Ok, Err, refl, sym, subst, arith, inl, inr}
use Rattle.std.specs.Prelude.{IsErr}
use Rattle.std.specs.Result.{IsOk}
use Rattle.std.proofs.lemmas.Bool.{both_ways}
use Rattle.std.proofs.lemmas.List.{length-append, take-append-le}
use Rattle.std.proofs.Math.Seq.{take-append-add}
use Rattle.zm_base.specs.declared.traits.Sink.{Ghosts}
use Rattle.zm_base.specs.Outside.{Rose, Takes, Counts, TakesPrefix}
use Rattle.zm_base.proofs.Joins.{takes_join, counts_join}
use Rattle.sequent_proof.specs.Writes.{Writes, Wrote}

rose_before : (f g k : ℕ) → f ≤ g → Rose g k → Rose f k
rose_before f g k le (inl h) = inl (omega arith)
rose_before f g k le (inr e) = inr e

front_of : (a b : List ℕ) (n : ℕ) → a ++ take n b ≡ take (length a + n) (a ++ b)
front_of a b n = sym (take-append-add a b n)

-- a part was taken, and then a prefix of the rest
prefix_join : {S : Type 0} (k : Ghosts S) (a b : List ℕ) (x y z : S) → Takes a (k.held x) (k.held y) → Counts (length a) (k.taken x) (k.taken y) →
    TakesPrefix b (k.held y) (k.held z) (k.taken y) (k.taken z) → TakesPrefix (a ++ b) (k.held x) (k.held z) (k.taken x) (k.taken z)
prefix_join k a b x y z p q r = record {
  count = length a + r.count;
  proper = omega (arith, r.proper, length-append a b);
  held = subst (λ (w : List ℕ). Takes w (k.held x) (k.held z)) (front_of a b r.count) (takes_join a (take r.count b) (k.held x) (k.held y) (k.held z) p r.held);
  taken = counts_join (length a) r.count (k.taken x) (k.taken y) (k.taken z) q r.taken;
}

both : {S T U D E : Type 0} (k : Ghosts S) (a b : List ℕ) (x y z : S) (p : Result T D) (r : Result U E) →
    Writes k a x y p → IsOk p → Writes k b y z r → Writes k (a ++ b) x z r
both k a b x y z (Err e) r m o n = absurd (both_ways false refl o)
both k a b x y z (Ok v) (Ok w) m o n = record {
  held = takes_join a b (k.held x) (k.held y) (k.held z) m.held n.held;
  taken = subst (λ (c : ℕ). Counts c (k.taken x) (k.taken z)) (sym (length-append a b)) (counts_join (length a) (length b) (k.taken x) (k.taken y) (k.taken z) m.taken n.taken);
  prefix = n.prefix;
  cause = record {
    later = omega (arith, m.cause.later, n.cause.later);
    failed = λ e. rose_before (k.faults x) (k.faults y) (k.faults z) m.cause.later (n.cause.failed e);
  };
}
both k a b x y z (Ok v) (Err w) m o n = record {
  held = n.held;
  taken = n.taken;
  prefix = prefix_join k a b x y z m.held m.taken n.prefix;
  cause = record {
    later = omega (arith, m.cause.later, n.cause.later);
    failed = λ e. rose_before (k.faults x) (k.faults y) (k.faults z) m.cause.later (n.cause.failed e);
  };
}

-- a write that ended, and then another
pub joined : {S T U D E : Type 0} {k : Ghosts S} {a b : List ℕ} {x y z : S} {p : Result T D} {r : Result U E} (text : List ℕ) →
    Writes k a x y p → IsOk p → Writes k b y z r → text ≡ a ++ b → Writes k text x z r
joined {k = k} {a = a} {b = b} {x = x} {y = y} {z = z} {p = p} {r = r} text m o n e =
    subst (λ (w : List ℕ). Writes k w x z r) (sym e) (both k a b x y z p r m o n)

early : {S T U D E : Type 0} (k : Ghosts S) (a b : List ℕ) (x y : S) (p : Result T D) (r : Result U E) →
    Writes k a x y p → IsErr p → IsErr r → Writes k (a ++ b) x y r
early k a b x y (Ok v) r m o n = absurd (both_ways false refl o)
early k a b x y (Err v) (Ok w) m o n = absurd (both_ways false refl n)
early k a b x y (Err v) (Err w) m o n = record {
  held = m.held;
  taken = m.taken;
  prefix = record {
    count = m.prefix.count;
    proper = omega (arith, m.prefix.proper, length-append a b);
    held = subst (λ (w : List ℕ). Takes w (k.held x) (k.held y)) (sym (take-append-le m.prefix.count a b (omega (arith, m.prefix.proper)))) m.prefix.held;
    taken = m.prefix.taken;
  };
  cause = record { later = m.cause.later; failed = λ e. m.cause.failed o };
}

-- a write that failed, and nothing more
pub stopped : {S T U D E : Type 0} {k : Ghosts S} {a : List ℕ} {x y : S} {p : Result T D} {r : Result U E} (text b : List ℕ) →
    Writes k a x y p → IsErr p → IsErr r → text ≡ a ++ b → Writes k text x y r
stopped {k = k} {a = a} {x = x} {y = y} {p = p} {r = r} text b m o n e =
    subst (λ (w : List ℕ). Writes k w x y r) (sym e) (early k a b x y p r m o n)

-- the same text in other words
pub retold : {S T E : Type 0} {k : Ghosts S} {a : List ℕ} {x y : S} {r : Result T E} (text : List ℕ) →
    Writes k a x y r → text ≡ a → Writes k text x y r
retold {k = k} {x = x} {y = y} {r = r} text m e = subst (λ (w : List ℕ). Writes k w x y r) (sym e) m

settled : {S T U D E : Type 0} (k : Ghosts S) (a : List ℕ) (x y : S) (p : Result T D) (r : Result U E) →
    Writes k a x y p → IsOk p → IsOk r → Writes k a x y r
settled k a x y (Err v) r m o n = absurd (both_ways false refl o)
settled k a x y (Ok v) (Err w) m o n = absurd (both_ways false refl n)
settled k a x y (Ok v) (Ok w) m o n = record {
  held = m.held;
  taken = m.taken;
  prefix = m.prefix;
  cause = record { later = m.cause.later; failed = λ e. absurd (both_ways false refl e) };
}

-- what was written so far, and then a write that ended
pub went_on : {S T E : Type 0} {k : Ghosts S} {a b : List ℕ} {x y z : S} {r : Result T E} (text : List ℕ) →
    Wrote k a x y → Writes k b y z r → IsOk r → text ≡ a ++ b → Wrote k text x z
went_on {k = k} {x = x} {z = z} {r = r} text m n o e = settled k text x z r (Ok 0) (joined text m refl n e) o refl

-- what was written so far, then a write that failed, and nothing more
pub broke_off : {S T U D E : Type 0} {k : Ghosts S} {a b : List ℕ} {x y z : S} {p : Result T D} {r : Result U E} (text rest : List ℕ) →
    Wrote k a x y → Writes k b y z p → IsErr p → IsErr r → text ≡ (a ++ b) ++ rest → Writes k text x z r
broke_off {a = a} {b = b} text rest m n o q e = stopped text rest (joined (a ++ b) m refl n refl) o q e

-- all that was written
pub ended : {S T E : Type 0} {k : Ghosts S} {a : List ℕ} {x y : S} {r : Result T E} (text : List ℕ) →
    Wrote k a x y → IsOk r → text ≡ a → Writes k text x y r
ended {k = k} {x = x} {y = y} {r = r} text m o e = retold text (settled k _ x y (Ok 0) r m refl o) e
