-- Texts whose values are bad, one for each way of 01's 'bad value' that is not starred there, and one that is not; of
-- Blobs see Padding.antt. Assumes nothing.
use Rattle.std.specs.Prelude.{List, [], ◌∷◌, ◌++◌}
use Rattle.examples.specs.Starred.{Example, node, refused, accepted, at_both}

abbrev pub values : List Example
values =
    at_both "1.5*1^2" (refused 5 0)
    ++ at_both "0cx110000" (refused 5 0)
    ++ at_both "\"\\\\<0cxD800>\"" (refused 5 2)
    ++ at_both "\"a\" \"\\\\<0cxD800>\"" (refused 5 6)
    ++ at_both "\"\\\\<0cxD7FF>\"" (accepted 13 (node 7 0 13 0 0 1 1 ∷ []))
