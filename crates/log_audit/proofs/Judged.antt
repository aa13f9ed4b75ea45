-- What a desk says of an entry.
use Rattle.std.proofs.Common.{◌≡◌, ℕ, ◌+◌, ◌≤◌, nat_lt, Bool, true, false, length, Option, None, Some, refl, sym, ap, ◌∙◌, subst}
use Rattle.std.proofs.lemmas.Bool.{ltb-true}
use Rattle.options_machine.specs.Run.{AsksForSet, IsBelow}
use Rattle.options_machine.specs.Step.{set_asked}
use Rattle.options_machine.specs.declared.reply.Kind.TheVariants.{Look}
use Rattle.options_machine.specs.declared.reply.Request.{Request}
use Rattle.audit_log.specs.declared.reading.Logged.{Logged}
use Rattle.log_audit.specs.Desks.{IsExpected, IsNext, Says, request_asked, is_there, moved_by, moved_on}
use Rattle.log_audit.specs.declared.desk.Desk.{Desk}
use Rattle.log_audit.specs.declared.desk.Expected.{Expected}

not_there : (o : Option ℕ) (n : ℕ) → (IsBelow o n → ⊥) → is_there o n ≡ false
not_there None n h = absurd (h tt)
not_there (Some m) n h = below (nat_lt m n) refl
  where
    below : (b : Bool) → nat_lt m n ≡ b → b ≡ false
    below true e = absurd (h (ltb-true m n e))
    below false e = refl

-- there is no such rule set: the entry isn't next, and a look holds in its place
pub no_set : (d : Desk) (x : Logged) (e : Expected) (look : Request) → (AsksForSet d.book.sets x.entry.request → ⊥) → look ≡ record x.entry.request { kind = Look } → Says d look x.entry.moment e
    → (IsNext d x → ⊥) × IsExpected d x e
no_set d x e look none is says =
    let gone : is_there (set_asked x.entry.request.kind) (length d.book.sets) ≡ false = not_there (set_asked x.entry.request.kind) (length d.book.sets) none in
    let same : request_asked (length d.book.sets) x.entry.request ≡ look = rw gone (sym is) in
    ((λ n. none n.fits), subst (λ (r : Request). Says d r x.entry.moment e) (sym same) says)

-- the entry is next, and the desk stands behind it
pub made : (d new : Desk) (x : Logged) (e : Expected) → Says d x.entry.request x.entry.moment e → new ≡ moved_by d x.entry.request x.entry.moment
    → d.book.state.now ≤ x.entry.moment → AsksForSet d.book.sets x.entry.request → x.place ≡ e.place → x.entry.reply ≡ e.reply
    → IsNext d x × (record new { entries = new.entries + 1 } ≡ moved_on d x)
made d new x e says moved later fits place reply = (
  record { place = place ∙ says.place; later = later; fits = fits; reply = reply ∙ says.reply },
  ap (λ (o : Desk). record o { entries = o.entries + 1 }) moved,
)
