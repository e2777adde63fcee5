-- `text_value::quoted::escape` meets its contract. Assumes nothing.
use native.Mathlib.Omega.{arith}
use Rattle.lexicon.specs.Values.{Letter}
use Rattle.text_value.proofs.Walks.{escape_within, escape_angled, escape_none, letter_as, letter_wrote, number_wrote}
use Rattle.text_value.proofs.quoted.escape.Goals.{in-113, in-103, in-98, in-116, in-110, in-114}
use Rattle.text_value.proofs.quoted.escape.Goals as goal

pub bounds-piece-at : goal.bounds-piece-at
bounds-piece-at c = escape_within _ c.requires.0 c.requires.1

pub angled-requires : goal.angled-requires
angled-requires c = escape_angled _ c.requires.0 c.requires.1 c.in-60.is

pub returns-in-60 : goal.returns-in-60
returns-in-60 c = number_wrote _ c.requires.0 c.requires.1 c.in-60.is c.angled.ensures

pub unreachable-requires : goal.unreachable-requires
unreachable-requires c =
    escape_none _ c.requires.0 c.requires.1
    (λ e. omega arith) (λ e. omega arith) (λ e. omega arith) (λ e. omega arith) (λ e. omega arith) (λ e. omega arith) (λ e. omega arith)

pub returns : goal.returns
returns c =
    letter_wrote _ c.requires.0 c.requires.1
    (elim c.match-piece-at.branch [
      | in-113 w ↦ letter_as Letter.quotation_mark w.in-113.is w.character-is
      | in-103 w ↦ letter_as Letter.grave_accent w.in-103.is w.character-is
      | in-98 w ↦ letter_as Letter.reverse_solidus w.in-98.is w.character-is
      | in-116 w ↦ letter_as Letter.tab w.in-116.is w.character-is
      | in-110 w ↦ letter_as Letter.line_feed w.in-110.is w.character-is
      | in-114 w ↦ letter_as Letter.carriage_return w.in-114.is w.character-is
    ])
    c.put.ensures
