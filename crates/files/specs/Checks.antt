-- The checker's answer, number, place and count, for every text and file: 02, request 4, 'Checker refusals, all at
-- place 0, in this order: 12 mark wrong or fewer than five bytes, 13 version not 1, 14 anything else that isn't exactly
-- what the writer gives for the lent text read at level 2, trailing bytes and a text the reader refuses included.'
-- Assumes nothing.
use Rattle.std.specs.Prelude.{◌≡◌, ◌⊎◌, List, [], ◌∷◌, ℕ, ◌<◌, length, take, drop}
use Rattle.std.proofs.Math.Option.{some}
use Rattle.grammar.specs.Tree.{Value}
use Rattle.reading.specs.declared.Answer.{Answer}
use Rattle.reading.specs.declared.Rules.{Rules}
use Rattle.reading.specs.Answers.{answer}
use Rattle.reading.specs.Tests.{Test, test, First}
use Rattle.files.specs.File.{number, mark, version, file}
use Rattle.files.specs.Writes.{Read}

-- 'mark wrong or fewer than five bytes'
abbrev pub Unmarked : List ℕ → Type 0
Unmarked bytes = (take 3 bytes ≡ mark → ⊥) ⊎ (length bytes < 5)

-- 'version not 1'
abbrev pub OtherVersion : List ℕ → Type 0
OtherVersion bytes = take 2 (drop 3 bytes) ≡ number 2 version → ⊥

module _ (rules : Rules) (text bytes : List ℕ) where
  -- the reader accepts the text, and the bytes are exactly its file
  pub record Stored : Type 0 where
    pub read_as : Answer
    pub tree : Value
    pub read : Read rules text read_as (some tree)
    pub bytes_are : bytes ≡ file text tree

  -- 'in this order'
  abbrev pub tests : List Test
  tests =
      test 12 (Unmarked bytes)
      ∷ test 13 (OtherVersion bytes)
      ∷ test 14 (Stored → ⊥)
      ∷ []

  -- 'all at place 0'; accepted, the place is the text's length, as 01 says, and the count the file's bytes
  pub data Checks : Answer → Type 0 where
    refused : {n : ℕ} → First tests n → Checks (answer n 0 0)
    accepted : Stored → Checks (answer 0 (length text) (length bytes))
