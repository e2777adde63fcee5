-- An Interval's bounds as the detail of its node. Assumes nothing.
use Rattle.std.specs.Prelude.{ℕ}
use Rattle.square.specs.declared.bounds.Bounds.{Bounds}

abbrev pub detail_of : Bounds → ℕ
detail_of Bounds.Empty = 0
detail_of Bounds.Single = 1
detail_of Bounds.ClosedClosed = 2
detail_of Bounds.ClosedOpen = 3
detail_of Bounds.OpenClosed = 4
detail_of Bounds.OpenOpen = 5
detail_of Bounds.FromClosed = 6
detail_of Bounds.FromOpen = 7
detail_of Bounds.ToClosed = 8
detail_of Bounds.ToOpen = 9
detail_of Bounds.All = 10
detail_of Bounds.Dots = 11
