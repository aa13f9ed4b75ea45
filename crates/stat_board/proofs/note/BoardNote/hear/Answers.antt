use Rattle.std.proofs.Common.{◌≤◌, ◌∙◌, List, length, ap, sym, subst, arith}
use mathlib.Core.List.{IsPrefix}
use Rattle.options_machine.specs.declared.reply.Entry.{Entry}
use Rattle.stat_board.specs.Fronts.{Front, IsLater}
use Rattle.stat_board.proofs.Fronts.{later}
use Rattle.stat_board.proofs.Shows.{front_is}
use Rattle.stat_board.proofs.note.BoardNote.hear.Goals as goal

pub returns-then-self-other-clause-later : goal.returns-then-self-other-clause-later
returns-then-self-other-clause-later c =
    let both = c.learn.new.self.log in
    let mine = ap (λ f. f.list) c.self.view_is in
    let theirs = ap (λ f. f.list) c.other.view_is in
    let p : IsPrefix c.args.self.now.list both = subst (λ (l : List Entry). IsPrefix l both) (ap (λ s. s.log) c.again-both.ensures ∙ mine) c.learn.ensures.2 in
    let q : IsPrefix c.args.other.now.list both = subst (λ (l : List Entry). IsPrefix l both) theirs c.learn.ensures.3 in
    let less : length c.args.self.now.list ≤ length c.args.other.now.list = omega (arith, front_is _ _ _ c.self.invariant, front_is _ _ _ c.other.invariant, ap length mine, ap length theirs) in
    subst (λ (f : Front). IsLater c.args.self.now f) (sym (c.drop.view_is ∙ c.copy.ensures)) (later _ _ both c.requires p q less)

pub returns-clause-heard : goal.returns-clause-heard
returns-clause-heard c =
    let both = c.learn.new.self.log in
    let mine = ap (λ f. f.list) c.self.view_is in
    let theirs = ap (λ f. f.list) c.other.view_is in
    let p : IsPrefix c.args.self.now.list both = subst (λ (l : List Entry). IsPrefix l both) (ap (λ s. s.log) c.again-both.ensures ∙ mine) c.learn.ensures.2 in
    let q : IsPrefix c.args.other.now.list both = subst (λ (l : List Entry). IsPrefix l both) theirs c.learn.ensures.3 in
    let less : length c.args.other.now.list ≤ length c.args.self.now.list = omega (arith, front_is _ _ _ c.self.invariant, front_is _ _ _ c.other.invariant, ap length mine, ap length theirs) in
    later _ _ both (record { board = sym c.requires.board; sets = sym c.requires.sets }) q p less
