-- Readings that end with 5: the value of the first faulty token is bad, and 5 is told at its place. A text that is one literal and nothing
-- else has a fault or a derivation by its value. Assumes nothing.
use mathlib.Core.Path.{◌≡◌, refl, sym, ap, subst, ◌∙◌}
use mathlib.Core.Bool.{Bool, true, false}
use mathlib.Core.List.{List, []}
use mathlib.Core.Option.{Option, none, some}
use Prim.Native.Nat.{ℕ, ◌≤◌}
use native.Mathlib.Omega.{arith}
use lib.ListN.{length}
use Rattle.rules.specs.Class.{Class}
use Rattle.rules.specs.Test.{Says}
use Rattle.rules.specs.Rule.{Rule, opt, At, Takes, nothing, left, right}
use Rattle.rules.proofs.Matches.{inside, move_at}
use Rattle.rules.proofs.Tests.{says_no, says_yes}
use Rattle.rules.proofs.Ways.{never, never_takes}
use Rattle.lexicon.specs.declared.Token as Token
use Rattle.lexicon.specs.declared.Next.TheVariants as Next
use Rattle.lexicon.specs.declared.Kind.{Kind}
use Rattle.lexicon.specs.Utf8.{WellFormed}
use Rattle.lexicon.specs.Space.{blank}
use Rattle.lexicon.specs.Front.{Front, byte_order_mark, first_line}
use Rattle.lexicon.specs.Token.{Lexeme, rule, Here, Is, Bad, BadPlace, Comes}
use Rattle.lexicon.proofs.Spaces.{landed_here}
use Rattle.lexicon.proofs.Determined.{formed_or_bad, past_end}
use Rattle.lexicon.proofs.Places.{one_place, place_not_none}
use Rattle.decisions.proofs.Front.{front}
use Rattle.grammar.specs.Tokens.{Tok, tok, class_kind}
use Rattle.grammar.specs.Tree.{Value}
use Rattle.grammar.specs.Level.{Level}
use Rattle.grammar.proofs.Frames.{want, have}
use Rattle.grammar.proofs.Machine.{step}
use Rattle.reading.specs.declared.Answer.{Answer}
use Rattle.reading.specs.declared.Limits.{Limits}
use Rattle.reading.specs.declared.Rules.{Rules}
use Rattle.reading.specs.Faults.{Fault, no_token, wrong_end, at_token, of_value, of_token, PlaceOf, FirstFault}
use Rattle.reading.specs.Answers as Answers
use Rattle.reading.specs.Answers.{LevelOf, answer, Accepted, Reading, no_level, too_long, not_utf8, faulty, no_room, Answers}
use Rattle.reading.proofs.Placed.{five_bad}
use Rattle.reading.proofs.First.{all_or_fault}
use Rattle.reading.proofs.Unique.{one_answer}
use Rattle.reading.proofs.At.{plain, at_start, literal_on, bad_here, accepted}
use Rattle.values.specs.Exactly.{Exactly}
use Rattle.values.specs.Bytes as Bytes
use Rattle.values.specs.Bytes.{Call, BadPiece, BytesAnswers}

-- ---- a text that is one literal

-- no match reaches further than the text's end
pub whole : {text : List ℕ} {l : Lexeme} → Takes text (rule l) 0 (length text) → Here text l 0 (length text)
whole t = record { takes = t; most = λ m u. inside u (omega arith) }

-- nothing that is dropped at the front begins with a byte of the class, nor does dividing space
pub record Begins (c : Class) : Type 0 where
  pub no_mark : never c byte_order_mark ≡ true
  pub no_line : never c first_line ≡ true
  pub no_blank : never c blank ≡ true

-- a literal of the kind is a value by itself
pub record Valued (k : Kind) (end : ℕ) : Type 0 where
  pub plainly : plain (class_kind k) ≡ true
  pub value : Value
  pub steps : (l : Level) → step l (want []) (tok (class_kind k) (record { first = 0; end = end })) ≡ some (have value [])

module _ (text : List ℕ) (k : Kind) (is : Is text k 0 (length text)) (valued : Valued k (length text)) {c : Class} (begins : Begins c) (here : At text c 0) where
  not_dropped : (r : Rule) → never c r ≡ true → {i j : ℕ} → i ≡ 0 → Takes text (opt r) i j → j ≡ 0
  not_dropped r e {i} z (left t) = absurd (never_takes text c r e (move_at text c (sym z) here) t)
  not_dropped r e z (right (nothing f)) = sym f ∙ z

  at_front : Front text 0
  at_front =
      let f = (front text).1 in
      subst (Front text) (not_dropped first_line begins.no_line (not_dropped byte_order_mark begins.no_mark refl f.mark.takes) f.line.takes) f

  abbrev token : Bool → Token.Token
  token b = record { kind = k; first = 0; end = length text; bad = b }

  comes : (b : Bool) → Says b (Bad text k 0 (length text)) → Comes text 0 (Next.Token (token b))
  comes b s = (landed_here c begins.no_blank here, here.0, is, s)

  module _ (limits : Limits) (l : Level) where
    pub bad_first : {p : ℕ} → Bad text k 0 (length text) → BadPlace text k 0 (length text) p → FirstFault limits l text 5 p
    bad_first b p = bad_here limits l text (at_start limits l text at_front) (token true) (comes true (says_yes b)) valued.plainly refl p (valued.steps l)

    pub good_accepted : (Bad text k 0 (length text) → ⊥) → (v : Value) × Accepted limits text l v
    good_accepted g =
        let a = literal_on limits l text (at_start limits l text at_front) (token false) (comes false (says_no g)) valued.plainly refl (valued.steps l) in
        (valued.value, (accepted limits l text a (length text) (past_end text (length text) (omega arith))).0)

-- ---- a reading that ends with 5

module _ (rules : Rules) (text : List ℕ) where
  pub record BadToken (place : ℕ) : Type 0 where
    pub short : length text ≤ rules.text
    pub formed : WellFormed text
    pub level : Level
    pub fault : FirstFault rules.limits level text 5 place
    pub kind : Kind
    pub first : ℕ
    pub end : ℕ
    pub is : Is text kind first end
    pub bad : Bad text kind first end
    pub at : BadPlace text kind first end place

  placed_at : {t : Token.Token} {n p : ℕ} → n ≡ 5 → PlaceOf text t n p → BadPlace text t.kind t.first t.end p
  placed_at e (of_value f x) = x
  placed_at e (of_token k f) = absurd (k e)

  module _ {l : Level} (h : length text ≤ rules.text) (w : WellFormed text) where
    of_fault : {n p : ℕ} → FirstFault rules.limits l text n p → n ≡ 5 → BadToken p
    of_fault {n} {p} f e = go f.fault e (subst (λ (m : ℕ). FirstFault rules.limits l text m p) e f)
      where
        go : {ts : List Tok} {from n p : ℕ} → Fault rules.limits l text ts from n p → n ≡ 5 → FirstFault rules.limits l text 5 p → BadToken p
        go (no_token c) e f = absurd (omega (arith, e))
        go (wrong_end c x) e f = absurd (omega (arith, e))
        go (at_token {t = t} c x v) e f =
            record {
              short = h;
              formed = w;
              level = l;
              fault = f;
              kind = t.kind;
              first = t.first;
              end = t.end;
              is = c.2;
              bad = c.3.true_holds (five_bad rules.limits l text t x e);
              at = placed_at e v;
            }

  module _ {level room : ℕ} where
    pub bad_token : {r : Answer} {t : Option Value} → Reading rules text room level r t → r.number ≡ 5 → BadToken r.place
    bad_token (no_level f) e = absurd (omega (arith, e))
    bad_token (too_long l h) e = absurd (omega (arith, e))
    bad_token (not_utf8 l h b) e = absurd (omega (arith, e))
    bad_token (faulty y h w f) e = of_fault h w f e
    bad_token (no_room l h w a m) e = absurd (omega (arith, e))
    bad_token (Answers.accepted l h w a m) e = absurd (omega (arith, e))

-- ---- a call that hands back bytes, on the same literal

-- what is bad for the call is the token's bad value, at its place
pub record Agrees (call : Call) (k : Kind) (piece : List ℕ) : Type 0 where
  pub to : {p : ℕ} → BadPiece call piece p → Bad piece k 0 (length piece) × BadPlace piece k 0 (length piece) p
  pub from : {p : ℕ} → Bad piece k 0 (length piece) → BadPlace piece k 0 (length piece) p → BadPiece call piece p

module _ (call : Call) (rules : Rules) {piece : List ℕ} {k : Kind} (agrees : Agrees call k piece) (exact : Exactly call.literal piece) where
  -- of a bad one
  pub call_bad : {p : ℕ} {lent : List ℕ} {c : Answer} {kept : List ℕ} → length piece ≤ rules.text → WellFormed piece → Bad piece k 0 (length piece) →
      BadPlace piece k 0 (length piece) p → BytesAnswers call rules piece lent c kept → c ≡ answer 5 p 0
  call_bad short formed b at (Bytes.too_long h) = absurd (omega (arith, h, short))
  call_bad short formed b at (Bytes.not_utf8 h e) = absurd (formed_or_bad piece formed e)
  call_bad short formed b at (Bytes.not_the_literal h w x) = absurd (x exact)
  call_bad short formed b at (Bytes.bad h w x y) = ap (λ (q : ℕ). answer 5 q 0) (one_place piece (agrees.to y).1 at)
  call_bad {p} short formed b at (Bytes.no_room h w x g v m) = absurd (g p (agrees.from b at))
  call_bad {p} short formed b at (Bytes.accepted h w x g v m) = absurd (g p (agrees.from b at))

  -- of a text that is this literal and nothing else, the call's 5 is the reader's
  module _ (is : Is piece k 0 (length piece)) (valued : Valued k (length piece)) {d : Class} (begins : Begins d) (here : At piece d 0) where
    module _ {table left : List ℕ} {level : ℕ} {l : Level} {r : Answer} (of : LevelOf level l) (a : Answers rules piece table level r left) where
      read_bad : {p : ℕ} → length piece ≤ rules.text → WellFormed piece → BadPiece call piece p → r ≡ answer 5 p 0
      read_bad h w y =
          let b = agrees.to y in
          (one_answer rules piece table a
          (record { tree = none; reading = faulty of h w (bad_first piece k is valued begins here rules.limits l b.0 b.1); left_is = refl })).0

      pub five_read : {lent : List ℕ} {c : Answer} {kept : List ℕ} → BytesAnswers call rules piece lent c kept → c.number ≡ 5 → r ≡ c
      five_read (Bytes.too_long h) e = absurd (omega (arith, e))
      five_read (Bytes.not_utf8 h b) e = absurd (omega (arith, e))
      five_read (Bytes.not_the_literal h w x) e = absurd (omega (arith, e))
      five_read (Bytes.bad h w x y) e = read_bad h w y
      five_read (Bytes.no_room h w x g v m) e = absurd (omega (arith, e))
      five_read (Bytes.accepted h w x g v m) e = absurd (omega (arith, e))

      -- and the reader's is the call's
      pub five_called : {lent : List ℕ} {c : Answer} {kept : List ℕ} → BytesAnswers call rules piece lent c kept → r.number ≡ 5 → c ≡ r
      five_called b e = go (bad_token rules piece a.reading e) b
        where
          sound : BadToken rules piece r.place → ((p : ℕ) → BadPiece call piece p → ⊥) → ⊥
          sound t g =
              let v = good_accepted piece k is valued begins here rules.limits t.level (λ x. place_not_none piece k x (λ p at. g p (agrees.from x at))) in
              all_or_fault piece rules.limits t.level v.1.passed t.fault

          go : {lent : List ℕ} {c : Answer} {kept : List ℕ} → BadToken rules piece r.place → BytesAnswers call rules piece lent c kept → c ≡ r
          go t (Bytes.too_long h) = absurd (omega (arith, h, t.short))
          go t (Bytes.not_utf8 h b) = absurd (formed_or_bad piece t.formed b)
          go t (Bytes.not_the_literal h w x) = absurd (x exact)
          go t (Bytes.bad h w x y) = sym (read_bad h w y)
          go t (Bytes.no_room h w x g v m) = absurd (sound t g)
          go t (Bytes.accepted h w x g v m) = absurd (sound t g)
