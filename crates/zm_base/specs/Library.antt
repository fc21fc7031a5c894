-- What callers see of a library: the files that it holds, and those of the libraries in memory.
use Rattle.std.specs.Prelude.{ℕ, List, [], ◌∷◌, take, Option, None, Some, if◌then◌else◌, string_bytes}
use Rattle.std.specs.Option.{option_map}
use Rattle.std.specs.Str.{bytes_eq}
use Rattle.std.specs.declared.alloc.Global.{Global}
use Rattle.std.specs.declared.string.String.{String}
use Rattle.std.specs.declared.vec.Vec.{Vec}
use Rattle.zm_base.specs.declared.library.Got.{Got}
use Rattle.zm_base.specs.declared.library.Got.TheVariants.{Bytes, Missing}

-- A file and its name.
pub record NamedFile : Type 0 where
  pub name : List ℕ
  pub bytes : List ℕ

-- A file of a library in memory.
abbrev pub file_named : String Global × Vec ℕ Global → NamedFile
file_named f = record { name = string_bytes f.0; bytes = f.1.items }

-- The bytes of the file with this name, if there is one. Where two have the name, the first counts.
abbrev pub file_of : List NamedFile → List ℕ → Option (List ℕ)
file_of [] name = None
file_of (f ∷ fs) name = if bytes_eq f.name name then Some f.bytes else file_of fs name

-- The first bytes of the file with this name, at most so many, if there is one.
abbrev pub front_of : List NamedFile → List ℕ → ℕ → Option (List ℕ)
front_of files name limit = option_map (take limit) (file_of files name)

-- The bytes that a library gave, if it gave any.
abbrev pub bytes_of : Got → Option (List ℕ)
bytes_of (Bytes bytes) = Some bytes.items
bytes_of Missing = None

-- A library in memory.
pub record MemoryLibrary : Type 0 where
  pub files : List NamedFile
  -- the numbers of the calls that fail, the first call being 1
  pub fails : List ℕ
  -- the number of calls so far
  pub calls : ℕ
  -- how many of them failed
  pub faults : ℕ
