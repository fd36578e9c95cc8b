-- The worked strip is that of its job, by computation.
use Rattle.std.proofs.Common.{refl, lit<, lit≤}
use Rattle.strips.specs.Jobs.{job_words}
use Rattle.strips.specs.Examples.{Worked}

pub worked : Worked
unfolding job_words
worked = record {
  proper = record {
    sound = record {
      head = ((lit< tt, refl), lit< tt, lit< tt);
      count = refl;
      raws = ((lit< tt, refl), ((lit< tt, refl), ((lit< tt, refl), tt)));
      window = tt;
      steps = ((lit< tt, lit< tt), ((lit< tt, lit< tt), (tt, tt)));
    };
    short = lit≤ tt;
  };
  spelled = refl;
}
