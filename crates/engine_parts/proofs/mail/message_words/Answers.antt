use Rattle.std.proofs.Common.{◌≡◌, ℕ, ◌+◌, ◌≤◌, List, [], ◌∷◌, ◌++◌, length, take, sym, ap, ◌∙◌, append-nil, one-add, arith}
use Rattle.operation.specs.Meaning.{written}
use Rattle.operation.proofs.Written.{take-written, length-written}
use Rattle.engine_parts.proofs.Packed.{length-block}
use Rattle.engine_parts.proofs.mail.message_words.Goals as goal

-- the front of a stamp with a written block behind it
front : (s w : ℕ) (b ws out : List ℕ) → w ≡ length b → w ≤ length ws → out ≡ written b ws → take (1 + w) (s ∷ (out ++ [])) ≡ s ∷ b
front s w b ws out p room e =
    ap (λ n. take n (s ∷ (out ++ []))) (one-add w)
    ∙ ap (λ r. s ∷ take w r) (append-nil out ∙ e)
    ∙ ap (λ n. s ∷ take n (written b ws)) p
    ∙ ap (λ r. s ∷ r) (take-written b ws (omega arith))

whole : (s k : ℕ) (b ws out : List ℕ) → out ≡ written b ws → length ws ≡ k → length (s ∷ (out ++ [])) ≡ 1 + k
whole s k b ws out e p =
    let l = ap length (append-nil out ∙ e) ∙ length-written b ws in
    omega arith

pub returns : goal.returns
returns g c =
    let m = g.O.Operation.meaning c.args.op.now in
    let packing = g.met.O.Operation.packing c.args.op.now c.requires.narrow in
    let block = m.pack c.args.mail.value in
    record {
      front = front c.args.mail.stamp m.width block _ c.pack.new.words (sym (length-block m packing c.args.mail.value c.requires.proper)) (omega (arith, c.requires.narrow)) c.pack.ensures;
      len = whole c.args.mail.stamp 7 block _ c.pack.new.words c.pack.ensures (omega arith);
    }
