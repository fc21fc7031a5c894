-- From the statements of a file to what is gathered from it.
use Rattle.std.proofs.Common.{◌≡◌, ℕ, ◌+◌, refl, ap, sym, ◌∙◌, subst, List, [], ◌∷◌, ◌++◌, append_assoc, append-nil, map, length, Option, Some, None, IfSome, Result, Ok, Err}
use Rattle.zm_base.specs.Library.{NamedFile}
use Rattle.tptp_reader.specs.declared.refusal.ReadRefusal.{ReadRefusal}
use Rattle.tptp_reader.specs.declared.refusal.ReadRefusal.TheVariants as read_refusals
use Rattle.tptp_reader.specs.declared.statement.Body.{Body}
use Rattle.tptp_reader.specs.declared.statement.Body.TheVariants as bodies
use Rattle.tptp_reader.specs.Raw.{Name, RawStatement}
use Rattle.tptp_reader.specs.View.{body_tree}
use Rattle.tptp_reader.specs.Answers.{Answer, Answers}
use Rattle.tptp_reader.specs.Answered.{answer_of}
use Rattle.tptp_include.specs.declared.gathered.GatheredStatement.{GatheredStatement}
use Rattle.tptp_include.specs.Gathering.{Placed, Refusal, Outcome, Gathers, Gives, IsSingle, put, kept, opened}
use Rattle.tptp_include.specs.Outcomes.{bytes_refused, placed_of, refusal_told, told_in}

-- a refusal of the reader is what is gathered
pub reads_refused : (files : List NamedFile) (path : List Name) (name : Name) (bytes : List ℕ) (from count : ℕ) (refusal : ReadRefusal) →
    IfSome (answer_of (Err refusal)) (Answers bytes from) →
    IfSome (refusal_told (told_in name refusal)) (Gathers files path name bytes from count)
reads_refused files path name bytes from count (read_refusals.Syntax at) a = Gathers.at_refusal a
reads_refused files path name bytes from count (read_refusals.TooDeep at) a = Gathers.at_refusal a
reads_refused files path name bytes from count (read_refusals.Unsupported form at) a = Gathers.at_refusal a
reads_refused files path name bytes from count read_refusals.Memory a = tt

put_put : (xs ys : List Placed) (o : Outcome) → put xs (put ys o) ≡ put (xs ++ ys) o
put_put xs ys (Outcome.gathered rest count) = ap (λ l. Outcome.gathered l count) (sym (append_assoc xs ys rest))
put_put xs ys (Outcome.refused r) = refl

-- what a refusal tells of one thing it tells of another
pub told_along : (P Q : Outcome → Type 0) (r : Option Refusal) → ((r : Refusal) → P (Outcome.refused r) → Q (Outcome.refused r)) →
    IfSome (refusal_told r) P → IfSome (refusal_told r) Q
told_along P Q None h p = tt
told_along P Q (Some r) h p = h r p

-- an outcome that is told is the one that is there
pub told_same : (told : Option Outcome) (whole : Outcome) (P : Outcome → Type 0) → P whole → IfSome told (λ o. whole ≡ o) → IfSome told P
told_same None whole P p h = tt
told_same (Some o) whole P p h = subst P h p

-- at the end of a file its list is complete
pub ends_list : (files : List NamedFile) (path : List Name) (name : Name) (bytes : List ℕ) (from count before : ℕ) (list : List Placed) →
    Answers bytes from Answer.ends →
    ((o : Outcome) → Gathers files path name bytes from count o → Gathers files path name bytes 0 before (put list o)) →
    Gathers files path name bytes 0 before (Outcome.gathered list count)
ends_list files path name bytes from count before list ends h =
    let P : List Placed → Type 0 = λ l. Gathers files path name bytes 0 before (Outcome.gathered l count) in
    subst P (append-nil list) (h (Outcome.gathered [] count) (Gathers.at_end ends))

-- a statement that is refused refuses what begins with it
pub refuses_file : (files : List NamedFile) (path now : List Name) (name : Name) (bytes : List ℕ) (from count at after before : ℕ)
    (s : RawStatement) (list : List Placed) (r : Option Refusal) → now ≡ path →
    Answers bytes from (Answer.reads at s after) →
    ((o : Outcome) → Gathers files path name bytes from count o → Gathers files path name bytes 0 before (put list o)) →
    IfSome (refusal_told r) (Gives files now name at count s) →
    IfSome (refusal_told r) (Gathers files path name bytes 0 before)
refuses_file files path now name bytes from count at after before s list r same reads h told =
    let P : List Name → Type 0 = λ p. IfSome (refusal_told r) (Gives files p name at count s) in
    told_along _ _ r (λ r gives. h (Outcome.refused r) (Gathers.at_refused reads gives)) (subst P same told)

-- what a statement gives comes behind what came before it
pub goes_on : (files : List NamedFile) (path now : List Name) (name : Name) (bytes : List ℕ) (from count at after read before : ℕ)
    (s : RawStatement) (list more : List Placed) → now ≡ path →
    Answers bytes from (Answer.reads at s after) →
    ((o : Outcome) → Gathers files path name bytes from count o → Gathers files path name bytes 0 before (put list o)) →
    Gives files now name at count s (Outcome.gathered more read) →
    (o : Outcome) → Gathers files path name bytes after read o → Gathers files path name bytes 0 before (put (list ++ more) o)
goes_on files path now name bytes from count at after read before s list more same reads h gives o rest =
    let P : List Name → Type 0 = λ p. Gives files p name at count s (Outcome.gathered more read) in
    let Q : Outcome → Type 0 = λ o. Gathers files path name bytes 0 before o in
    subst Q (put_put list more o) (h (put more o) (Gathers.at_statement reads (subst P same gives) rest))

-- an include whose file isn't read is refused
pub unopened_told : (files : List NamedFile) (path : List Name) (name : Name) (at count : ℕ) (file : Name) (names : Option (List Name)) (r : Option Refusal) →
    IfSome (bytes_refused r) (λ told. opened files path file count ≡ told) →
    IfSome (refusal_told r) (Gives files path name at count (RawStatement.inclusion file names))
unopened_told files path name at count file names None h = tt
unopened_told files path name at count file names (Some r) h = Gives.unopened h

-- what is gathered from an include's file, as the include sees it
entered : (files : List NamedFile) (path now : List Name) (inner file : Name) (bytes : List ℕ) (count reached : ℕ) (o : Outcome) →
    now ≡ path ++ inner ∷ [] → inner ≡ file → reached ≡ count + length bytes →
    Gathers files now inner bytes 0 reached o → Gathers files (path ++ file ∷ []) file bytes 0 (count + length bytes) o
entered files path now inner file bytes count reached o same called counted gathers =
    let P : List Name → Type 0 = λ p. Gathers files p inner bytes 0 reached o in
    let Q : Name → Type 0 = λ n. Gathers files (path ++ n ∷ []) n bytes 0 reached o in
    let R : ℕ → Type 0 = λ c. Gathers files (path ++ file ∷ []) file bytes 0 c o in
    subst R counted (subst Q called (subst P same gathers))

keeps_refusal : (names : Option (List Name)) (r : Refusal) → kept names (Outcome.refused r) ≡ Outcome.refused r
keeps_refusal None r = refl
keeps_refusal (Some names) r = refl

-- a file that is refused refuses its include
pub refuses_include : (files : List NamedFile) (path now : List Name) (name inner : Name) (at count reached : ℕ) (file : Name) (names : Option (List Name))
    (bytes : List ℕ) (r : Option Refusal) → now ≡ path ++ inner ∷ [] → inner ≡ file → reached ≡ count + length bytes →
    opened files path file count ≡ Ok bytes → IfSome (refusal_told r) (Gathers files now inner bytes 0 reached) →
    IfSome (refusal_told r) (Gives files path name at count (RawStatement.inclusion file names))
refuses_include files path now name inner at count reached file names bytes r same called counted found told =
    let Q : Outcome → Type 0 = λ o. Gives files path name at count (RawStatement.inclusion file names) o in
    told_along _ Q r (λ r gathers. subst Q (keeps_refusal names r)
    (Gives.include found (entered files path now inner file bytes count reached _ same called counted gathers))) told

-- an include gives what it keeps of the list of its file
pub keeps_include : (files : List NamedFile) (path now : List Name) (name inner : Name) (at count reached : ℕ) (file : Name) (names : Option (List Name))
    (bytes : List ℕ) (o : Outcome) (told : Option Outcome) → now ≡ path ++ inner ∷ [] → inner ≡ file → reached ≡ count + length bytes →
    opened files path file count ≡ Ok bytes → Gathers files now inner bytes 0 reached o → IfSome told (λ w. kept names o ≡ w) →
    IfSome told (Gives files path name at count (RawStatement.inclusion file names))
keeps_include files path now name inner at count reached file names bytes o told same called counted found gathers keeps =
    told_same told (kept names o) _
    (Gives.include found (entered files path now inner file bytes count reached o same called counted gathers)) keeps

-- a body that is no include is a formula or a typing
pub is_single : (body : Body) → ((file : Name) (names : Option (List Name)) → body ≡ bodies.Include file names → ⊥) → IsSingle (body_tree body)
is_single (bodies.Formula name role form) h = tt
is_single (bodies.Typing name subject declared) h = tt
is_single (bodies.Include file names) h = h file names refl

pub placed_appended : (xs ys : List GatheredStatement) → map placed_of (xs ++ ys) ≡ map placed_of xs ++ map placed_of ys
placed_appended [] ys = refl
placed_appended (x ∷ xs) ys = ap (λ l. placed_of x ∷ l) (placed_appended xs ys)

-- what a list's being told says, in the words of the public call
pub list_told : (files : Option (List NamedFile)) (P : List NamedFile → ℕ → Type 0) (count : ℕ) →
    ((fs : List NamedFile) → files ≡ Some fs → P fs count) → IfSome files (λ fs. (n : ℕ) × P fs n)
list_told None P count h = tt
list_told (Some fs) P count h = (count, h fs refl)

pub refusal_is_told : (files : Option (List NamedFile)) (P : List NamedFile → Outcome → Type 0) (r : Option Refusal) →
    ((fs : List NamedFile) → files ≡ Some fs → IfSome (refusal_told r) (P fs)) →
    IfSome r (λ r. IfSome files (λ fs. P fs (Outcome.refused r)))
refusal_is_told files P None h = tt
refusal_is_told None P (Some r) h = tt
refusal_is_told (Some fs) P (Some r) h = h fs refl
