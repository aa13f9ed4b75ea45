use Rattle.std.proofs.Common.{◌≡◌, ◌+◌, ◌++◌, ◌∷◌, [], length, vec_len, ap, sym, ◌∙◌, arith, length-append}
use Rattle.std.proofs.lemmas.List.{get_or_append_left, get_or_push}
use Rattle.pass_roles.proofs.Members.{front_of}
use Rattle.feature_desk.specs.Sitters.{Sitter}
use Rattle.std.proofs.Common.{List, get_or}
use Rattle.licence_office.proofs.Dealt.{handed_more}
use Rattle.licence_office.proofs.dealing.hand_out.Goals as goal

pub loop-pass-preserved : goal.loop-pass-preserved
loop-pass-preserved c =
    let i = c.loop-pass.invariant in
    let rest = c.pop.new.self.items in
    let e : c.loop-pass.passes.items ≡ rest ++ c.in-Some.pass ∷ [] = front_of _ _ _ _ c.pop.ensures.items c.in-Some.is in
    let n : length c.loop-pass.passes.items ≡ length rest + 1 = ap length e ∙ length-append rest (c.in-Some.pass ∷ []) in
    let a = c.loop-pass.passes.ok.0 in let b = c.pop.new.self.ok.0 in
    let next : vec_len c.loop-pass.passes ≡ vec_len c.pop.new.self + 1 = omega (arith, n, a, b) in
    let few = i.2 in let same = i.0.same in
    let last : (s : Sitter) → c.in-Some.pass ≡ get_or c.args.passes.now.items (vec_len c.pop.new.self) s
    = λ s. sym (get_or_push rest c.in-Some.pass s (vec_len c.pop.new.self) (sym b)) ∙ (ap (λ (l : List Sitter). get_or l (vec_len c.pop.new.self) s) (sym e) ∙ i.1 (vec_len c.pop.new.self) s (omega (arith, next))) in (
      handed_more c.args.passes.now.items c.args.parties.now c.loop-pass.parties (vec_len c.loop-pass.passes) (vec_len c.pop.new.self) c.len-party.result c.index-parties-party.result c.push_reserved.new.self c.in-Some.pass
          i.0 next c.len-party.ensures (omega (arith, next, few, same)) c.push_reserved.ensures.items c.push_reserved.ensures.capacity last,
      λ k s lt. sym (get_or_append_left rest (c.in-Some.pass ∷ []) s k (omega (arith, lt, b))) ∙ (ap (λ (l : List Sitter). get_or l k s) (sym e) ∙ i.1 k s (omega (arith, lt, next))),
      omega (arith, next, few),
      c.pop.ensures.capacity ∙ i.3,
    )
