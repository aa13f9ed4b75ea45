use Rattle.std.proofs.Common.{◌≡◌, ℕ, ◌<◌, Bool, true, false, ◌&&◌, ◌||◌, List, [], ◌∷◌, ◌++◌, length, get_or, Option, None, Some, cond, refl, sym, ap, ◌∙◌, eqb, slice_set}
use Rattle.std.proofs.lemmas.Bool.{eqb-true, eqb-false}
use Rattle.std.proofs.lemmas.Grind.{get_or-set_at}
use Rattle.std.proofs.lemmas.List.{get_or-set_other, length-set}
use Rattle.std.specs.Option.{is_none}
use Rattle.std.proofs.Math.Bool.{and-false}
use Rattle.options_machine.specs.Own.{holds, queues, stands_for}
use Rattle.options_machine.specs.Step.{set_asked}
use Rattle.options_machine.specs.declared.reply.Entry.{Entry}
use Rattle.options_machine.specs.declared.reply.Reply.{Reply}
use Rattle.scripts.specs.PoolRuns.{places_moved, says_place}
use Rattle.scripts.proofs.Entries.{place_then}

-- the place of one party was written
written_at : (places : List Bool) (i p : ℕ) (b t : Bool) → eqb i p ≡ t → i < length places → get_or (slice_set places i b) p false ≡ cond t b (get_or places p false)
written_at places i p b true e h = get_or-set_at places i p b false (sym (eqb-true i p e)) h
written_at places i p b false e h = get_or-set_other places i p b false (λ same. eqb-false i p e (sym same))

stands_only : (b t : Bool) → b ≡ t → (b && true) ≡ t
stands_only true true e = refl
stands_only true false e = cc
stands_only false true e = cc
stands_only false false e = refl

-- as many parties have a place or none
pub length_moved : (places : List Bool) (party : ℕ) (reply : Reply) (asked : Option ℕ) → length (places_moved places party reply asked) ≡ length places
length_moved places party reply None = length-set places party (says_place reply)
length_moved places party reply (Some n) = refl

moved_one : (h : List Entry) (e : Entry) (places : List Bool) (p : ℕ) (t : Bool) → eqb e.request.party p ≡ t → None ≡ set_asked e.request.kind → e.request.party < length places
    → get_or places p false ≡ (holds h p || queues h p) → get_or (slice_set places e.request.party (says_place e.reply)) p false ≡ (holds (h ++ e ∷ []) p || queues (h ++ e ∷ []) p)
moved_one h e places p t is asks within before =
    let stands : stands_for p e ≡ t = ap (λ (o : Option ℕ). eqb e.request.party p && is_none o) (sym asks) ∙ stands_only (eqb e.request.party p) t is in
    written_at places e.request.party p (says_place e.reply) t is within
    ∙ (ap (λ (b : Bool). cond t (says_place e.reply) b) before
    ∙ (ap (λ (b : Bool). cond b (says_place e.reply) (holds h p || queues h p)) (sym stands)
    ∙ sym (place_then h e p)))

moved_none : (h : List Entry) (e : Entry) (p n : ℕ) → Some n ≡ set_asked e.request.kind → (holds h p || queues h p) ≡ (holds (h ++ e ∷ []) p || queues (h ++ e ∷ []) p)
moved_none h e p n asks =
    let stands : stands_for p e ≡ false = ap (λ (o : Option ℕ). eqb e.request.party p && is_none o) (sym asks) ∙ and-false (eqb e.request.party p) in
    ap (λ (b : Bool). cond b (says_place e.reply) (holds h p || queues h p)) (sym stands) ∙ sym (place_then h e p)

-- a list that tells which parties keep a place, after one more entry
pub places_then : (h : List Entry) (e : Entry) (places : List Bool) (p : ℕ) (asked : Option ℕ) → asked ≡ set_asked e.request.kind → e.request.party < length places → get_or places p false ≡ (holds h p || queues h p)
    → get_or (places_moved places e.request.party e.reply asked) p false ≡ (holds (h ++ e ∷ []) p || queues (h ++ e ∷ []) p)
places_then h e places p None asks within before = moved_one h e places p (eqb e.request.party p) refl asks within before
places_then h e places p (Some n) asks within before = before ∙ moved_none h e p n asks
