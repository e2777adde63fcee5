-- `leaf::spelling::spelled` meets its contract. Assumes nothing.
use Rattle.rules.specs.Plain.{between}
use Rattle.buffer.proofs.Writing.{part_of}
use Rattle.leaf.proofs.Spellings.{quoted_spelled, head_spelled, copy_spelled}
use Rattle.leaf.proofs.spelling.spelled.Goals as goal

pub returns-in-Quoted : goal.returns-in-Quoted
unfolding between
returns-in-Quoted c = part_of (quoted_spelled _ c.in-Quoted.is) c.bare.ensures

pub returns-in-HeadWord : goal.returns-in-HeadWord
unfolding between
returns-in-HeadWord c = part_of (head_spelled _ c.in-HeadWord.is) c.in_quotes.ensures

pub returns-in-Word : goal.returns-in-Word
unfolding between
returns-in-Word c = part_of (copy_spelled _ c.in-Word.is) c.copy.ensures
