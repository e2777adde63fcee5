-- The tokens of an accepted text stand inside it, and so do its nodes. Assumes nothing.
use mathlib.Core.List.{List}
use Prim.Native.Nat.{ℕ}
use native.Mathlib.Omega.{arith}
use lib.ListN.{length}
use Rattle.rules.specs.Every.{Every, none, also}
use Rattle.rules.proofs.Every.{every_append}
use Rattle.lexicon.proofs.Pieces.{token_within}
use Rattle.grammar.specs.Tokens.{Tok}
use Rattle.grammar.specs.Tree.{Value}
use Rattle.grammar.specs.Level.{Level}
use Rattle.grammar.specs.Nodes.{table}
use Rattle.grammar.proofs.Bounds.{Before, Bounded, table_bounded}
use Rattle.reading.specs.declared.Limits.{Limits}
use Rattle.reading.specs.Faults.{Passed, begun, passed}
use Rattle.reading.specs.Answers.{Accepted}

module _ (limits : Limits) (l : Level) (bytes : List ℕ) where
  tokens_within : {ts : List Tok} {p : ℕ} → Passed limits l bytes ts p → Every (Before (length bytes)) ts
  tokens_within (begun f) = none
  tokens_within (passed {t = t} g c s) =
      every_append (tokens_within g) (also (record { first_before = omega (arith, c.1); end_before = token_within bytes t.kind c.2 }) none)

  pub nodes_within : {v : Value} → Accepted limits bytes l v → Every (Bounded (length bytes) (length (table v))) (table v)
  nodes_within {v} a = table_bounded (length bytes) v (tokens_within a.passed.good)
