use Rattle.std.proofs.Common.{◌+◌, List, ℕ, sym, subst}
use Rattle.review_marks.specs.Turns.{ClimbsTo, HasReached}
use Rattle.review_marks.proofs.Turning.{reached_put, climbs_on, climbs_more}
use Rattle.review_marks.proofs.NearCases.{sites_on}
use Rattle.review_marks.proofs.book.MarkBook.reach.Goals as goal

pub returns-in_ok-push-clause-all : goal.returns-in_ok-push-clause-all
returns-in_ok-push-clause-all c =
    λ h. subst (λ (ns : List ℕ). HasReached c.args.change.now c.args.self.now ns (c.args.place + 1)) (sym c.in_ok-push.ensures.items) (reached_put c.args.change.now c.args.self.now c.args.numbers.now.items c.args.place h)

pub returns-in_ok-push-clause-rises : goal.returns-in_ok-push-clause-rises
returns-in_ok-push-clause-rises c =
    λ h. subst (λ (ns : List ℕ). ClimbsTo 0 ns (c.args.place + 1)) (sym c.in_ok-push.ensures.items) (climbs_on 0 c.args.numbers.now.items c.args.place h)

pub returns-else-is_reached-clause-rises : goal.returns-else-is_reached-clause-rises
returns-else-is_reached-clause-rises c = climbs_more 0 c.args.numbers.now.items c.args.place

pub returns-in_ok-push-clause-sites : goal.returns-in_ok-push-clause-sites
returns-in_ok-push-clause-sites c = sites_on c.args.self.now c.args.place c.is_reached.ensures.site

pub returns-else-is_reached-clause-sites : goal.returns-else-is_reached-clause-sites
returns-else-is_reached-clause-sites c = sites_on c.args.self.now c.args.place c.is_reached.ensures.site
