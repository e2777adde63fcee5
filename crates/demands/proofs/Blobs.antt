-- Blobs without bytes: the reader answers 5 just where the Blob call does. Assumes nothing.
use mathlib.Core.Path.{◌≡◌, refl, sym, ap, subst, ◌∙◌}
use mathlib.Core.Bool.{true}
use mathlib.Core.List.{List}
use Prim.Native.Nat.{ℕ}
use native.Mathlib.Omega.{arith}
use lib.ListN.{length}
use Rattle.rules.specs.Plain.{between}
use Rattle.rules.specs.Rule.{lit, At}
use Rattle.rules.proofs.Classes.{apart, apart_span, includes, in_some}
use Rattle.rules.proofs.Ways.{never, opens, never_takes, opens_at}
use Rattle.rules.proofs.Windows.{piece_length}
use Rattle.lexicon.specs.declared.Kind.{Kind}
use Rattle.lexicon.specs.declared.Kind.TheVariants.{Blob}
use Rattle.lexicon.specs.Literals.{blob}
use Rattle.lexicon.specs.Token.{Is, Bad, BadPlace, inside_quotes, first_byte}
use Rattle.lexicon.proofs.Unique.{one_token, token_forward}
use Rattle.lexicon.proofs.Pieces.{token_within, token_formed, token_alone, bad_alone}
use Rattle.lexicon.proofs.Places.{not_quoted, first_bad_takes}
use Rattle.grammar.specs.Level.{Level}
use Rattle.reading.specs.declared.Answer.{Answer}
use Rattle.reading.specs.declared.Rules.{Rules}
use Rattle.reading.specs.Answers.{LevelOf, answer, Answers}
use Rattle.values.specs.Exactly.{Exactly}
use Rattle.values.specs.Bytes as Bytes
use Rattle.values.specs.Blob.{blob_call, BlobAnswers}
use Rattle.values.proofs.Shapes.{zero}
use Rattle.demands.proofs.Fives.{whole, Begins, Valued, Agrees, bad_token, call_bad, five_read, five_called}

pub zero_begins : Begins zero
unfolding never apart apart_span
zero_begins = record { no_mark = refl; no_line = refl; no_blank = refl }

-- a Blob begins with the digit 0
blob_zero : opens zero blob ≡ true
unfolding opens includes in_some
blob_zero = refl

blob_agrees : {piece : List ℕ} → Agrees blob_call Blob piece
blob_agrees =
    record {
      to = λ b. (b.1, first_byte (not_quoted Blob refl) b.0);
      from = λ b at. (first at, b);
    }
  where
    first : {piece : List ℕ} {i j p : ℕ} → BadPlace piece Blob i j p → p ≡ i
    first (inside_quotes e x) = absurd (not_quoted Blob refl e)
    first (first_byte n e) = e

-- the call tells it at the first byte
first_byte_lem : {rules : Rules} {piece buffer : List ℕ} {c : Answer} {kept : List ℕ} → BlobAnswers rules piece buffer c kept → c.number ≡ 5 → c ≡ answer 5 0 0
first_byte_lem (Bytes.too_long h) e = absurd (omega (arith, e))
first_byte_lem (Bytes.not_utf8 h b) e = absurd (omega (arith, e))
first_byte_lem (Bytes.not_the_literal h w x) e = absurd (omega (arith, e))
first_byte_lem (Bytes.bad h w x b) e = ap (λ (p : ℕ). answer 5 p 0) b.0
first_byte_lem (Bytes.no_room h w x g v m) e = absurd (omega (arith, e))
first_byte_lem (Bytes.accepted h w x g v m) e = absurd (omega (arith, e))

-- no Blob begins with the backslash of an escape
blob_at : {text : List ℕ} {i j k p : ℕ} {m : Kind} → BadPlace text m i j p → Is text Blob p k → p ≡ i
unfolding never apart apart_span
blob_at {text} (inside_quotes e x) s = absurd (never_takes text zero (lit "\\<") refl (opens_at text zero blob blob_zero s.told.takes) (first_bad_takes text x))
blob_at (first_byte n e) s = e

module _ (rules : Rules) (text table : List ℕ) (level : ℕ) {r : Answer} {left : List ℕ} (a : Answers rules text table level r left) {buffer : List ℕ} {c : Answer} {kept : List ℕ} where
  module _ {l : Level} (of : LevelOf level l) (x : Exactly blob text) (b : BlobAnswers rules text buffer c kept) where
    is : Is text Blob 0 (length text)
    is = record { told = whole x }

    valued : Valued Blob (length text)
    valued = record { plainly = refl; value = _; steps = λ l. refl }

    here : At text zero 0
    here = opens_at text zero blob blob_zero x

    pub from_reader : r.number ≡ 5 → c ≡ answer 5 0 0
    from_reader e =
        first_byte_lem b (ap (λ (y : Answer). y.number) (five_called blob_call rules blob_agrees x is valued zero_begins here of a b e) ∙ e)

    pub from_call : c.number ≡ 5 → r ≡ answer 5 0 0
    from_call e = five_read blob_call rules blob_agrees x is valued zero_begins here of a b e ∙ first_byte_lem b e

  pub inside : {j : ℕ} → r.number ≡ 5 → Is text Blob r.place j → BlobAnswers rules (between text r.place j) buffer c kept → c ≡ answer 5 0 0
  inside {j} e s b =
      let t = bad_token rules text a.reading e in
      let f = blob_at t.at s in
      let same = one_token text (subst (λ (i : ℕ). Is text t.kind i t.end) (sym f) t.is) s in
      let within = token_within text Blob s in
      let bad =
      subst (λ (k : Kind). Bad text k r.place j) same.0
      (subst (λ (m : ℕ). Bad text t.kind r.place m) same.1 (subst (λ (i : ℕ). Bad text t.kind i t.end) (sym f) t.bad)) in
      call_bad blob_call rules blob_agrees (token_alone text Blob s).told.takes
      (omega (arith, t.short, within, piece_length text {i = r.place} {j = j} (omega (arith, token_forward text s)) within)) (token_formed text Blob s t.formed)
      (bad_alone text Blob s bad) (first_byte (not_quoted Blob refl) refl) b
