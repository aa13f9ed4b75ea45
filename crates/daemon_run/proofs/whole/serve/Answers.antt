use Rattle.std.proofs.Common.{◌∙◌, ℕ, ◌+◌, ◌++◌, length, Vec, Global, All, ap, sym, subst, get_or}
use Rattle.std.proofs.lemmas.List.{append-nil, length-map}
use Rattle.feature_desk.specs.Sitters.{Sitter}
use Rattle.licence_office.specs.Offices.{AreAt, AreDealt}
use Rattle.session_outside.specs.Talk.{Follows}
use Rattle.daemon_run.specs.Gives.{AreKept, kept_as, kept_from, no_sessions, passes_of}
use Rattle.daemon_run.specs.declared.worker.Worker.{Worker}
use Rattle.daemon_run.proofs.Dealing.{all_parts, dealt_at}
use Rattle.daemon_run.proofs.Ending.{run_of}
use Rattle.daemon_run.proofs.Splitting.{follows_nil, kept_same, whole_in}
use Rattle.daemon_run.proofs.Unserved.{all_unused}
use Rattle.daemon_run.proofs.whole.serve.Goals as goal

pub close_with_log-end-requires-clause-ready : goal.close_with_log-end-requires-clause-ready
close_with_log-end-requires-clause-ready g c = λ k d l. dealt_at c.args.office.view.desks k (get_or c.args.passes.items k d).items (c.requires.dealt k d l)

pub give_back-requires-clause-lent : goal.give_back-requires-clause-lent
give_back-requires-clause-lent g c κs within = λ k d l. (c.post_all.ensures.started k d l).unused.none_lent

pub close_with_log-end-requires-in_default-post_all-clause-ready :
    goal.close_with_log-end-requires-in_default-post_all-clause-ready
close_with_log-end-requires-in_default-post_all-clause-ready g c =
    let desks = c.args.office.view.desks in
    subst (λ ps. All (λ (v : Vec Sitter Global). AreAt desks v.items) ps) (sym c.give_back.ensures.passes)
    (all_parts (λ (v : Vec Sitter Global). AreAt desks v.items) (passes_of c.post_all.new.workers.items) c.post_all.new.passes.items c.args.passes.items c.post_all.ensures.passes
    (λ k d l. dealt_at desks k (get_or c.args.passes.items k d).items (c.requires.dealt k d l)))

pub serve_all-broken-requires-clause-dealt : goal.serve_all-broken-requires-clause-dealt
serve_all-broken-requires-clause-dealt g c κs within =
    subst (AreDealt c.args.office.view.desks) (sym (whole_in (passes_of c.post_all.new.workers.items) c.post_all.new.passes.items c.args.passes.items c.post_all.ensures.passes c.in-Ok-post_all.ensures.all)) c.requires.dealt

pub serve_all-broken-requires-clause-unused : goal.serve_all-broken-requires-clause-unused
serve_all-broken-requires-clause-unused g c κs within = λ k d l. (c.post_all.ensures.started k d l).unused

pub returns-then-broken-clause-ran : goal.returns-then-broken-clause-ran
returns-then-broken-clause-ran g c =
    run_of c.args.office.view (passes_of c.post_all.new.workers.items) c.args.passes.items
    (λ visits. Follows g.T.Site.keeps c.post_all.new.site c.serve_all-broken.new.site (kept_as c.post_all.new.workers.items visits))
    (λ visits. Follows g.T.Site.keeps c.args.site.now c.serve_all-broken.new.site (kept_from (g.T.Site.made c.args.site.now) visits))
    (g.T.Site.rings c.post_all.new.site) (g.T.Site.rings c.serve_all-broken.new.site) (g.T.Site.rings c.args.site.now) c.serve_all-broken.result.1
    (whole_in (passes_of c.post_all.new.workers.items) c.post_all.new.passes.items c.args.passes.items c.post_all.ensures.passes c.in-Ok-post_all.ensures.all)
    (λ visits l k. λ told t.
    let f = follows_nil g.T.Site.keeps c.args.site.now c.listen.new.self c.post_all.new.site c.listen.ensures.keeps c.post_all.ensures.keeps told t in
    subst (λ ks. g.T.Site.keeps c.serve_all-broken.new.site (told ++ ks))
    (kept_same (g.T.Site.made c.args.site.now) c.post_all.new.workers.items visits (l ∙ length-map c.post_all.new.workers.items (λ (w : Worker (Vec Sitter Global) g.row.T-Door.Denot g.row.T-Clock.Denot g.row.T-Bell.Denot g.row.T-Gate.Denot). w.pass)) (λ i d m. (c.post_all.ensures.started i d m).number_is ∙ ap (λ b. b + i) c.listen.ensures.same.1))
    (k told (subst (λ ts. g.T.Site.keeps c.post_all.new.site ts) (append-nil told) f)))
    (c.post_all.ensures.same.2 ∙ c.listen.ensures.same.4)
    c.serve_all-broken.ensures.ran

pub returns-clause-ran : goal.returns-clause-ran
returns-clause-ran g c =
    run_of c.args.office.view (passes_of c.post_all.new.workers.items) c.args.passes.items
    (λ visits. Follows g.T.Site.keeps c.post_all.new.site c.serve_all-broken.new.site (kept_as c.post_all.new.workers.items visits))
    (λ visits. Follows g.T.Site.keeps c.args.site.now c.serve_all-broken.new.site (kept_from (g.T.Site.made c.args.site.now) visits))
    (g.T.Site.rings c.post_all.new.site) (g.T.Site.rings c.serve_all-broken.new.site) (g.T.Site.rings c.args.site.now) c.serve_all-broken.result.1
    (whole_in (passes_of c.post_all.new.workers.items) c.post_all.new.passes.items c.args.passes.items c.post_all.ensures.passes c.in-Ok-post_all.ensures.all)
    (λ visits l k. λ told t.
    let f = follows_nil g.T.Site.keeps c.args.site.now c.listen.new.self c.post_all.new.site c.listen.ensures.keeps c.post_all.ensures.keeps told t in
    subst (λ ks. g.T.Site.keeps c.serve_all-broken.new.site (told ++ ks))
    (kept_same (g.T.Site.made c.args.site.now) c.post_all.new.workers.items visits (l ∙ length-map c.post_all.new.workers.items (λ (w : Worker (Vec Sitter Global) g.row.T-Door.Denot g.row.T-Clock.Denot g.row.T-Bell.Denot g.row.T-Gate.Denot). w.pass)) (λ i d m. (c.post_all.ensures.started i d m).number_is ∙ ap (λ b. b + i) c.listen.ensures.same.1))
    (k told (subst (λ ts. g.T.Site.keeps c.post_all.new.site ts) (append-nil told) f)))
    (c.post_all.ensures.same.2 ∙ c.listen.ensures.same.4)
    c.serve_all-broken.ensures.ran

pub returns-in_default-clause-unserved : goal.returns-in_default-clause-unserved
returns-in_default-clause-unserved g c = (0, c.listen.ensures.keeps)

pub returns-in_default-post_all-clause-unserved : goal.returns-in_default-post_all-clause-unserved
returns-in_default-post_all-clause-unserved g c =
    let workers = c.post_all.new.workers.items in
    let silent = no_sessions (length workers) in
    let unused = all_unused g.T.Door.Door.talks g.T.Clock.Clock.gave g.T.Door.Door.faults g.T.Door.Door.quiets g.T.Door.Door.fails g.T.Door.Door.lent g.T.Bell.Bell.tolls g.T.Bell.Bell.rings
    (g.T.Site.made c.listen.new.self) workers c.post_all.ensures.started in (
      length workers,
      λ told t.
          let f = follows_nil g.T.Site.keeps c.args.site.now c.listen.new.self c.post_all.new.site c.listen.ensures.keeps c.post_all.ensures.keeps told t in
          c.give_back.ensures.keeps told (kept_from (g.T.Site.made c.args.site.now) silent)
          (subst (λ ts. g.T.Site.keeps c.post_all.new.site ts) (append-nil told) f)
          (subst (λ (base : ℕ). AreKept g.T.Door.Door.talks g.T.Clock.Clock.gave workers (kept_from base silent)) c.listen.ensures.same.1 unused),
    )
