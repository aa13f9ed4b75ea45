use Rattle.std.proofs.Common.{List, length, map, sym, ap, subst, ◌∙◌, rules}
use Rattle.lic_types.specs.Groups.{GroupLine}
use Rattle.lic_types.specs.declared.client.RuleLine.{RuleLine}
use Rattle.lic_types.specs.declared.note.Note.{Note}
use Rattle.options_text.specs.Rises.{AreRising}
use Rattle.options_text.specs.Options.{IsSaid}
use Rattle.options_text.proofs.ReadsBack.{reads_from}
use Rattle.options_text.proofs.Rising.{all_rising}
use Rattle.options_text.proofs.options.write_options.Goals as goal

pub write_left-requires : goal.write_left-requires
write_left-requires c =
    let groups : List GroupLine → Type 0 = λ xs. AreRising (map (λ (g : GroupLine). g.line) xs) in
    let lines : List RuleLine → Type 0 = λ xs. AreRising (map (λ (l : RuleLine). l.line) xs) in
    let notes : List Note → Type 0 = λ xs. AreRising (map (λ (n : Note). n.line) xs) in
    record {
      groups = subst groups (sym c.groups.ensures) (all_rising (map (λ (g : GroupLine). g.line) c.options.inside.roster) c.options.invariant.orderly.groups_rise);
      lines = subst lines (sym c.as_slice.ensures) (all_rising (map (λ (l : RuleLine). l.line) c.options.inside.lines) c.options.invariant.orderly.lines_rise);
      notes = subst notes (sym c.as_slice-2.ensures.value) (all_rising (map (λ (n : Note). n.line) c.options.inside.notes.items) c.options.invariant.orderly.notes_rise);
      paired = ap length c.as_slice-3.ensures.value ∙ (c.options.invariant.orderly.paired ∙ sym (ap length c.as_slice-2.ensures.value));
    }

pub returns-clause-reads_back : goal.returns-clause-reads_back
returns-clause-reads_back c =
    let said : IsSaid c.args.options.now = subst IsSaid c.options.view_is c.options.invariant in
    reads_from c.write_left.result (λ text. text.items) c.args.options.now said (search rules)
