-- The forms are the level's. Assumes nothing.
use Rattle.level.proofs.Levels.{first_level, second_level}
use Rattle.level.proofs.level_of.Goals as goal

pub returns-in-1 : goal.returns-in-1
returns-in-1 c = first_level c.in-1.is

pub returns-in-2 : goal.returns-in-2
returns-in-2 c = second_level c.in-2.is
