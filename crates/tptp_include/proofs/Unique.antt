-- There is at most one outcome.
use Rattle.std.proofs.Common.{◌≡◌, ℕ, ◌+◌, refl, ap, sym, ◌∙◌, subst, List, [], ◌∷◌, ◌++◌, length, Option, Result, Ok, Err}
use Rattle.zm_base.specs.Library.{NamedFile}
use Rattle.tptp_reader.specs.Raw.{Name, RawStatement}
use Rattle.tptp_reader.specs.Answered.{OneAnswer}
use Rattle.tptp_reader.specs.Answers as reader
use Rattle.tptp_reader.specs.Answers.{Answer, Answers}
use Rattle.tptp_include.specs.Gathering.{Placed, Refusal, Outcome, Gathers, GathersAll, Gives, IsSingle, put, kept, opened, refusal_in}

-- Two answers of one place are the same.
ends_no_refusal : {r : reader.Refusal} {A : Type 0} → Answer.ends ≡ Answer.refuses r → A
ends_no_refusal e = cc

ends_no_statement : {at after : ℕ} {s : RawStatement} {A : Type 0} → Answer.ends ≡ Answer.reads at s after → A
ends_no_statement e = cc

refusal_no_statement : {r : reader.Refusal} {at after : ℕ} {s : RawStatement} {A : Type 0} → Answer.refuses r ≡ Answer.reads at s after → A
refusal_no_statement e = cc

refused_no_list : {r : Refusal} {list : List Placed} {count : ℕ} {A : Type 0} → Outcome.refused r ≡ Outcome.gathered list count → A
refused_no_list e = cc

-- what two readings of one statement have in common
record SameReading (at other_at after other_after : ℕ) (s other_s : RawStatement) : Type 0 where
  pub at_same : other_at ≡ at
  pub statement_same : other_s ≡ s
  pub after_same : other_after ≡ after

same_reading : {at other_at after other_after : ℕ} {s other_s : RawStatement} →
    Answer.reads at s after ≡ Answer.reads other_at other_s other_after → SameReading at other_at after other_after s other_s
same_reading e = record { at_same = cc; statement_same = cc; after_same = cc }

gives_here : {files : List NamedFile} {path : List Name} {name : Name} {at other_at after other_after count : ℕ} {s other_s : RawStatement} {o : Outcome} →
    SameReading at other_at after other_after s other_s → Gives files path name other_at count other_s o → Gives files path name at count s o
gives_here {files = files} {path = path} {name = name} {at = at} {count = count} {other_s = other_s} {o = o} same gives =
    let P : ℕ → Type 0 = λ n. Gives files path name n count other_s o in
    let Q : RawStatement → Type 0 = λ t. Gives files path name at count t o in
    subst Q same.statement_same (subst P same.at_same gives)

gathers_here : (files : List NamedFile) (path : List Name) (name : Name) (bytes : List ℕ) (after other_after read other_read : ℕ) (o : Outcome) →
    other_after ≡ after → other_read ≡ read → Gathers files path name bytes other_after other_read o → Gathers files path name bytes after read o
gathers_here files path name bytes after other_after read other_read o e f gathers =
    let P : ℕ → Type 0 = λ n. Gathers files path name bytes n other_read o in
    let Q : ℕ → Type 0 = λ n. Gathers files path name bytes after n o in
    subst Q f (subst P e gathers)

inner_here : (files : List NamedFile) (path : List Name) (name : Name) (count : ℕ) (bytes other_bytes : List ℕ) (o : Outcome) →
    other_bytes ≡ bytes → Gathers files path name other_bytes 0 (count + length other_bytes) o → Gathers files path name bytes 0 (count + length bytes) o
inner_here files path name count bytes other_bytes o e gathers =
    let P : List ℕ → Type 0 = λ b. Gathers files path name b 0 (count + length b) o in
    subst P e gathers

same_bytes : {x : Result (List ℕ) Refusal} {bytes other_bytes : List ℕ} → x ≡ Ok bytes → x ≡ Ok other_bytes → other_bytes ≡ bytes
same_bytes e f = cc

not_both : {x : Result (List ℕ) Refusal} {bytes : List ℕ} {r : Refusal} {A : Type 0} → x ≡ Ok bytes → x ≡ Err r → A
not_both e f = cc

same_refusal : {x : Result (List ℕ) Refusal} {r q : Refusal} → x ≡ Err r → x ≡ Err q → Outcome.refused r ≡ Outcome.refused q
same_refusal e f = cc

same_whole : {list other_list : List Placed} {read other_read : ℕ} {rest other_rest : Outcome} →
    Outcome.gathered list read ≡ Outcome.gathered other_list other_read → rest ≡ other_rest → put list rest ≡ put other_list other_rest
same_whole e f = cc

same_count : {list other_list : List Placed} {read other_read : ℕ} → Outcome.gathered list read ≡ Outcome.gathered other_list other_read → other_read ≡ read
same_count e = cc

mutual
  gathers_equal : OneAnswer → (files : List NamedFile) (path : List Name) (name : Name) (bytes : List ℕ) (from count : ℕ) (one other : Outcome) →
      Gathers files path name bytes from count one → Gathers files path name bytes from count other → one ≡ other
  gathers_equal law files path name bytes from count one other (Gathers.at_end a) (Gathers.at_end b) = refl
  gathers_equal law files path name bytes from count one other (Gathers.at_end a) (Gathers.at_refusal b) = ends_no_refusal (law _ _ _ _ a b)
  gathers_equal law files path name bytes from count one other (Gathers.at_end a) (Gathers.at_refused b h) = ends_no_statement (law _ _ _ _ a b)
  gathers_equal law files path name bytes from count one other (Gathers.at_end a) (Gathers.at_statement b h k) = ends_no_statement (law _ _ _ _ a b)
  gathers_equal law files path name bytes from count one other (Gathers.at_refusal a) (Gathers.at_end b) = ends_no_refusal (law _ _ _ _ b a)
  gathers_equal law files path name bytes from count one other (Gathers.at_refusal {r = r} a) (Gathers.at_refusal {r = q} b) =
      let e : r ≡ q = let f = law _ _ _ _ a b in cc in ap (λ r. Outcome.refused (refusal_in name r)) e
  gathers_equal law files path name bytes from count one other (Gathers.at_refusal a) (Gathers.at_refused b h) = refusal_no_statement (law _ _ _ _ a b)
  gathers_equal law files path name bytes from count one other (Gathers.at_refusal a) (Gathers.at_statement b h k) = refusal_no_statement (law _ _ _ _ a b)
  gathers_equal law files path name bytes from count one other (Gathers.at_refused a h) (Gathers.at_end b) = ends_no_statement (law _ _ _ _ b a)
  gathers_equal law files path name bytes from count one other (Gathers.at_refused a h) (Gathers.at_refusal b) = refusal_no_statement (law _ _ _ _ b a)
  gathers_equal law files path name bytes from count one other (Gathers.at_refused a h) (Gathers.at_refused b k) =
      gives_equal law files path name _ count _ _ _ h (gives_here (same_reading (law _ _ _ _ a b)) k)
  gathers_equal law files path name bytes from count one other (Gathers.at_refused a h) (Gathers.at_statement b k l) =
      refused_no_list (gives_equal law files path name _ count _ _ _ h (gives_here (same_reading (law _ _ _ _ a b)) k))
  gathers_equal law files path name bytes from count one other (Gathers.at_statement a h i) (Gathers.at_end b) = ends_no_statement (law _ _ _ _ b a)
  gathers_equal law files path name bytes from count one other (Gathers.at_statement a h i) (Gathers.at_refusal b) = refusal_no_statement (law _ _ _ _ b a)
  gathers_equal law files path name bytes from count one other (Gathers.at_statement a h i) (Gathers.at_refused b k) =
      refused_no_list (sym (gives_equal law files path name _ count _ _ _ h (gives_here (same_reading (law _ _ _ _ a b)) k)))
  gathers_equal law files path name bytes from count one other (Gathers.at_statement a h i) (Gathers.at_statement b k l) =
      let same = same_reading (law _ _ _ _ a b) in
      let given = gives_equal law files path name _ count _ _ _ h (gives_here same k) in
      same_whole given (gathers_equal law files path name bytes _ _ _ _ i (gathers_here _ _ _ _ _ _ _ _ _ same.after_same (same_count given) l))

  gives_equal : OneAnswer → (files : List NamedFile) (path : List Name) (name : Name) (at count : ℕ) (s : RawStatement) (one other : Outcome) →
      Gives files path name at count s one → Gives files path name at count s other → one ≡ other
  gives_equal law files path name at count s one other (Gives.single h) (Gives.single k) = refl
  gives_equal law files path name at count s one other (Gives.single h) (Gives.unopened f) = absurd h
  gives_equal law files path name at count s one other (Gives.single h) (Gives.include f l) = absurd h
  gives_equal law files path name at count s one other (Gives.unopened e) (Gives.single k) = absurd k
  gives_equal law files path name at count s one other (Gives.unopened e) (Gives.unopened f) = same_refusal e f
  gives_equal law files path name at count s one other (Gives.unopened e) (Gives.include f l) = not_both f e
  gives_equal law files path name at count s one other (Gives.include e i) (Gives.single k) = absurd k
  gives_equal law files path name at count s one other (Gives.include e i) (Gives.unopened f) = not_both e f
  gives_equal law files path name at count s one other (Gives.include {file = file} {names = names} e i) (Gives.include f l) =
      ap (kept names) (gathers_equal law files (path ++ file ∷ []) file _ 0 _ _ _ i (inner_here _ _ _ count _ _ _ (same_bytes e f) l))

pub outcomes_equal : OneAnswer → (files : List NamedFile) (name : Name) (bytes : List ℕ) (one other : Outcome) →
    GathersAll files name bytes one → GathersAll files name bytes other → one ≡ other
outcomes_equal law files name bytes one other p q = gathers_equal law files (name ∷ []) name bytes 0 (length bytes) one other p q
