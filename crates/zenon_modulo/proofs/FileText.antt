-- What the first bytes of a file say of the file.
use Rattle.std.proofs.Common.{ℕ, ◌≡◌, ◌+◌, ◌<◌, ◌≤◌, List, length, take, Option, Some, None, Result, Ok, Err, Vec, IfSome, refl, sym, arith, ap, subst, ◌∙◌}
use Rattle.std.specs.Option.{option_map}
use Rattle.std.proofs.lemmas.List.{length-take, take_all}
use Rattle.zm_base.specs.Library.{NamedFile, file_of, front_of}
use Rattle.std.specs.declared.alloc.Global.{Global}
use Rattle.zenon_modulo.specs.declared.answer.FileStop.{FileStop}
use Rattle.zenon_modulo.specs.declared.answer.FileStop.TheVariants as stops
use Rattle.zenon_modulo.specs.Input.{HasTooMany, input_limit}
use Rattle.zenon_modulo.specs.Stages.{IsFile, IsFileRead}

module _ (n : ℕ) (bytes : List ℕ) where
  front_some : (file : Option (List ℕ)) → Some bytes ≡ option_map (take n) file → (f : List ℕ) × (file ≡ Some f) × (bytes ≡ take n f)
  front_some (Some f) e = (f, refl, same (take n f) e)
    where
      same : (b : List ℕ) → Some bytes ≡ Some b → bytes ≡ b
      same b h = cc
  front_some None e = absurd (none e)
    where
      none : Some bytes ≡ None → ⊥
      none h = cc

none_front : (n : ℕ) (file : Option (List ℕ)) → None ≡ option_map (take n) file → file ≡ None
none_front n None e = refl
none_front n (Some f) e = absurd (some (take n f) e)
  where
    some : (b : List ℕ) → None ≡ Some b → ⊥
    some b h = cc

-- fewer bytes than were asked for are all of the file
short_front : (n : ℕ) (f bytes : List ℕ) → bytes ≡ take n f → length bytes < n → bytes ≡ f
short_front n f bytes e h =
    let short : length f ≤ n = (let l = length-take n f in let m = ap length e in omega arith) in
    e ∙ take_all n f short

pub whole_file : (files : Option (List NamedFile)) (name bytes : List ℕ) (n : ℕ) → n ≡ input_limit + 1 → IfSome files (λ fs. Some bytes ≡ front_of fs name n)
    → length bytes ≤ input_limit → IfSome files (λ fs. file_of fs name ≡ Some bytes)
whole_file None name bytes n e h le = tt
whole_file (Some fs) name bytes n e h le =
    let found = front_some n bytes (file_of fs name) h in
    found.1 ∙ ap Some (sym (short_front n found.0 bytes found.2 (omega (arith, e, le))))

pub larger_file : (files : Option (List NamedFile)) (name bytes : List ℕ) (n : ℕ) → IfSome files (λ fs. Some bytes ≡ front_of fs name n)
    → input_limit < length bytes → IfSome files (λ fs. HasTooMany (file_of fs name))
larger_file None name bytes n h lt = tt
larger_file (Some fs) name bytes n h lt =
    let found = front_some n bytes (file_of fs name) h in
    record { bytes = found.0; is_there = found.1; over = (let l = length-take n found.0 in let m = ap length found.2 in omega (arith, lt)) }

pub no_file : (files : Option (List NamedFile)) (name : List ℕ) (n : ℕ) → IfSome files (λ fs. None ≡ front_of fs name n) → IfSome files (λ fs. file_of fs name ≡ None)
no_file None name n h = tt
no_file (Some fs) name n h = none_front n (file_of fs name) h

told : (files : Option (List NamedFile)) (name : List ℕ) (n : ℕ) (front other : Option (List ℕ)) → front ≡ other
    → IfSome files (λ fs. front ≡ front_of fs name n) → IfSome files (λ fs. other ≡ front_of fs name n)
told files name n front other e h = subst (λ f. IfSome files (λ fs. f ≡ front_of fs name n)) e h

pub file_read : (files : Option (List NamedFile)) (name : List ℕ) (n : ℕ) (front : Option (List ℕ)) (r : Result (Vec ℕ Global) FileStop) → n ≡ input_limit + 1
    → IfSome files (λ fs. front ≡ front_of fs name n) → IsFile front r → IsFileRead files name r
file_read files name n front (Ok bytes) e h f = (whole_file files name bytes.items n e (told files name n front (Some bytes.items) f.0 h) f.1, f.1)
file_read files name n front (Err stops.Missing) e h f = no_file files name n (told files name n front None f h)
file_read files name n front (Err stops.TooLarge) e h f = larger_file files name f.0 n (told files name n front (Some f.0) f.1 h) f.2
file_read files name n front (Err stops.Failed) e h f = tt
file_read files name n front (Err stops.Memory) e h f = tt
