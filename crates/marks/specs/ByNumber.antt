-- What stands around the children of a bracket, by the numbers of kind, role and detail, whichever they are. No rule:
-- of the numbers of kinds and roles they are those of form/proofs/Walk.antt (proofs/Around.antt). Assumes nothing.
use Rattle.std.specs.Prelude.{cond, List, [], ℕ, eqb}
use Rattle.rules.specs.Class.{codes}
use Rattle.form.proofs.Walk.{sign_bytes, comma, last_sign_of}
use Rattle.marks.specs.declared.Attributes.{Attributes}

-- ---- by the kind

abbrev pub opening_by : ℕ → List ℕ
opening_by kind =
    cond (eqb kind 9) (codes "(")
    (cond (eqb kind 10) (codes "(")
    (cond (eqb kind 11) (codes "{")
    (cond (eqb kind 12) (codes "(Array:{")
    (cond (eqb kind 13) (codes "(Set:{")
    (cond (eqb kind 14) (codes "(Bag:{") (codes "["))))))

abbrev pub closing_by : ℕ → List ℕ
closing_by kind =
    cond (eqb kind 9) (codes ")")
    (cond (eqb kind 10) (codes ")")
    (cond (eqb kind 11) (codes "}")
    (cond (eqb kind 12) (codes "})")
    (cond (eqb kind 13) (codes "})")
    (cond (eqb kind 14) (codes "})") (codes "]"))))))

-- ---- in front of a child, by its role and that of the child in front of it

abbrev pub lead_by : (detail before role : ℕ) → List ℕ
lead_by d before role =
    cond (eqb role 2) (codes ":")
    (cond (eqb role 6) (codes ":")
    (cond (eqb role 5) (cond (eqb before 4) (codes ":") (comma before))
    (cond (eqb role 8) (sign_bytes d)
    (cond (eqb role 0) []
    (cond (eqb role 7) []
    (cond (eqb role 9) [] (comma before)))))))

-- ---- behind the last child

-- a child more; a that before its this counts as two
abbrev pub member : Attributes → (role : ℕ) → Attributes
member Attributes.No role = cond (eqb role 4) Attributes.Name Attributes.One
member Attributes.Name role = Attributes.One
member Attributes.One role = Attributes.More
member Attributes.More role = Attributes.More

abbrev pub counted_by : Attributes → (role : ℕ) → Attributes
counted_by done role = cond (eqb role 3) Attributes.More (member done role)

-- the comma of a Tuple's single attribute
abbrev pub last_comma_of : Attributes → List ℕ
last_comma_of Attributes.No = []
last_comma_of Attributes.Name = codes ","
last_comma_of Attributes.One = codes ","
last_comma_of Attributes.More = []

abbrev pub tail_by : (kind detail : ℕ) → Attributes → List ℕ
tail_by kind d done = cond (eqb kind 10) (last_comma_of done) (cond (eqb kind 15) (last_sign_of d) [])
