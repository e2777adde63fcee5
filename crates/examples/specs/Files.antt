-- What the writer answers by today's rules and the checker by the old ones, and every byte of a file: 02, requests 4
-- and 6. Assumes nothing.
use Rattle.std.specs.Prelude.{◌≡◌, List, [], ◌∷◌, ◌++◌, ℕ, ◌≤◌, ◌<◌, length, take, drop}
use Rattle.rules.specs.Class.{codes}
use Rattle.reading.specs.declared.Rules.{Rules}
use Rattle.reading.specs.Sizes.{base, old_rules}
use Rattle.reading.specs.Answers.{answer}
use Rattle.files.specs.Writes.{Writes}
use Rattle.files.specs.Checks.{Checks}

-- the file of `(x:y)`, a Pair and two words: its front, and twelve bytes for each node
abbrev pub pair : List ℕ
pair =
    codes "FNT"
    ++ (0x00 ∷ 0x01 ∷ 0x00 ∷ 0x03 ∷ 0x00 ∷ 0x05 ∷ [])
    ++ (0x00 ∷ 0x09 ∷ 0x00 ∷ 0x00 ∷ 0x00 ∷ 0x05 ∷ 0x00 ∷ 0x00 ∷ 0x00 ∷ 0x00 ∷ 0x00 ∷ 0x00 ∷ [])
    ++ (0x00 ∷ 0x07 ∷ 0x00 ∷ 0x01 ∷ 0x00 ∷ 0x02 ∷ 0x00 ∷ 0x00 ∷ 0x00 ∷ 0x01 ∷ 0x00 ∷ 0x02 ∷ [])
    ++ (0x00 ∷ 0x07 ∷ 0x00 ∷ 0x03 ∷ 0x00 ∷ 0x04 ∷ 0x00 ∷ 0x00 ∷ 0x00 ∷ 0x02 ∷ 0x00 ∷ 0x02 ∷ [])

pub record Files : Type 0 where
  -- the writer, for every lent buffer
  pub written : (lent : List ℕ) → 45 ≤ length lent →
      Writes base (codes "(x:y)") lent (answer 0 5 45) (pair ++ drop 45 lent)
  pub no_room : (lent : List ℕ) → length lent < 45 → Writes base (codes "(x:y)") lent (answer 8 5 45) lent
  -- at level 1 this is refused
  pub level_two : (lent : List ℕ) → length lent < 45 → Writes base (codes "[1..10]") lent (answer 8 7 45) lent
  pub passed_on : (lent : List ℕ) → Writes base (codes "(x") lent (answer 6 2 0) lent
  -- the checker; texts with equal lengths and nodes have one file
  pub stored : Checks old_rules (codes "(x:y)") pair (answer 0 5 45)
  pub same_nodes : Checks old_rules (codes "(a:b)") pair (answer 0 5 45)
  pub longer_text : Checks old_rules (codes "(x:y )") pair (answer 14 0 0)
  pub byte_behind : (b : ℕ) → Checks old_rules (codes "(x:y)") (pair ++ (b ∷ [])) (answer 14 0 0)
  pub byte_changed : (b : ℕ) → (b ≡ 0x02 → ⊥) →
      Checks old_rules (codes "(x:y)") (take 44 pair ++ (b ∷ [])) (answer 14 0 0)
  pub text_refused : (rest : List ℕ) →
      Checks old_rules (codes "(") (codes "FNT" ++ (0x00 ∷ 0x01 ∷ rest)) (answer 14 0 0)
  -- whatever the text is
  pub four_bytes : (rules : Rules) (text : List ℕ) → Checks rules text (codes "FNT" ++ (0x00 ∷ [])) (answer 12 0 0)
  pub other_mark : (rules : Rules) (text : List ℕ) →
      Checks rules text (codes "FNX" ++ (0x00 ∷ 0x01 ∷ 0x00 ∷ [])) (answer 12 0 0)
  pub other_version : (rules : Rules) (text : List ℕ) →
      Checks rules text (codes "FNT" ++ (0x00 ∷ 0x02 ∷ [])) (answer 13 0 0)
  pub version_alone : (rules : Rules) (text : List ℕ) →
      Checks rules text (codes "FNT" ++ (0x00 ∷ 0x01 ∷ [])) (answer 14 0 0)
