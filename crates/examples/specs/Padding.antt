-- Base-64 Blobs: 02, request 3. Texts that RFC 4648 has no bytes for, texts that it has bytes for, and texts with
-- characters that fill no group of four and so are no part of the Blob. Assumes nothing.
use Rattle.std.specs.Prelude.{List, [], ◌∷◌, ◌++◌}
use Rattle.examples.specs.Starred.{Example, node, refused, accepted, at_both}

abbrev pub padding : List Example
padding =
    at_both "0xy====" (refused 5 0)
    ++ at_both "0xyA===" (refused 5 0)
    ++ at_both "0xyAB==" (refused 5 0)
    ++ at_both "0xyAAB=" (refused 5 0)
    ++ at_both "0xyAAA=_====" (refused 5 0)
    ++ at_both "0xyAA== AAAA" (refused 5 0)
    ++ at_both "0xyA=AA" (refused 5 0)
    ++ at_both "0xyAAAA====" (refused 5 0)
    ++ at_both "0xyAE==" (refused 5 0)
    ++ at_both "{0xyAB==" (refused 5 1)
    ++ at_both "0xyAA==" (accepted 7 (node 6 0 7 0 0 0 1 ∷ []))
    ++ at_both "0xyAAA=" (accepted 7 (node 6 0 7 0 0 0 1 ∷ []))
    ++ at_both "0xyAAAA" (accepted 7 (node 6 0 7 0 0 0 1 ∷ []))
    ++ at_both "0xy" (accepted 3 (node 6 0 3 0 0 0 1 ∷ []))
    ++ at_both "0xyTWF" (refused 6 3)
    ++ at_both "0xyAAAAA" (refused 6 7)
    ++ at_both "0xyAA=" (refused 6 3)
    ++ at_both "0xy=" (refused 4 3)
