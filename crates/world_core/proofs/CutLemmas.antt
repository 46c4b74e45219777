-- Cells that are cut into jobs, from the last to the first.
use Rattle.std.proofs.Common.{◌≡◌, ◌∙◌, sym, ap, ℕ, ◌+◌, ◌-◌, ◌<◌, ◌≤◌, ◌^◌, List, [], ◌∷◌, ◌++◌, append_assoc, length, reverse, take, drop, Option, arith}
use Rattle.world_core.proofs.Prelude.{All, get_or_append_left, length-append, length-drop, length-take-le, length_push, reverse-append, take-append-drop, All-cons, All-nil, All-tail, IsYoung, CanRun, Job, SeatValue, OrganismState, LieSideBySide, seat_from, seat_without}
use Rattle.world_core.proofs.JoinLemmas.{cells_in, slices_in}

-- where all cells may run, those of each job may
pub jobs-can-run : (first : ℕ) (jobs : List Job) → LieSideBySide first jobs
    → first + length (cells_in jobs) ≤ 65536 → All (λ steps. steps < 2 ^ 27) (slices_in jobs)
    → All IsYoung (cells_in jobs) → All CanRun jobs
jobs-can-run first [] beside within few young = All-nil CanRun
jobs-can-run first (job ∷ jobs) beside within few young =
    All-cons CanRun job jobs
    (record {
      within = omega (arith, within, beside.0, length-append job.cells (cells_in jobs));
      each = beside.1;
      few = All-front (λ steps. steps < 2 ^ 27) job.slices (slices_in jobs) few;
      young = All-front IsYoung job.cells (cells_in jobs) young;
    })
    (jobs-can-run (first + length job.cells) jobs beside.2
    (omega (arith, within, length-append job.cells (cells_in jobs)))
    (All-back (λ steps. steps < 2 ^ 27) job.slices (slices_in jobs) few)
    (All-back IsYoung job.cells (cells_in jobs) young))
  where
    All-front : {X : Type 0} (P : X → Type 0) (xs ys : List X) → All P (xs ++ ys) → All P xs
    All-front P xs ys all k d within =
        rw (← get_or_append_left xs ys d k within)
        (all k d (omega (arith, within, length-append xs ys)))

    All-back : {X : Type 0} (P : X → Type 0) (xs ys : List X) → All P (xs ++ ys) → All P ys
    All-back P [] ys all = all
    All-back P (x ∷ xs) ys all = All-back P xs ys (All-tail P x (xs ++ ys) all)

-- the last cells were cut off into these jobs, the last job first
pub record HaveCut (seat : SeatValue) (cells : List (Option OrganismState)) (slices : List ℕ)
    (jobs : List Job) (left : List (Option OrganismState)) (steps : List ℕ) (now : SeatValue) : Type
    0 where
  pub beside : LieSideBySide (length left) (reverse jobs)
  pub cells_are : left ++ cells_in (reverse jobs) ≡ cells
  pub slices_are : steps ++ slices_in (reverse jobs) ≡ slices
  pub long : length steps ≡ length left
  pub seat_is : now ≡ seat_without seat (length jobs)
  pub seats : All (λ job. job.seat ≡ seat_from seat) (reverse jobs)

-- the jobs in order, with one more in front
pub jobs-push : (jobs : List Job) (job : Job) → reverse (jobs ++ job ∷ []) ≡ job ∷ reverse jobs
jobs-push jobs job = reverse-append jobs (job ∷ [])

-- the two parts of a list that was cut, and what comes behind them
put_back : {A : Type 0} (first : ℕ) (all front back behind : List A) → front ≡ take first all
    → back ≡ drop first all → front ++ (back ++ behind) ≡ all ++ behind
put_back first all front back behind front_is back_is =
    (λ i. front_is i ++ (back_is i ++ behind))
    ∙ sym (append_assoc (take first all) (drop first all) behind)
    ∙ ap (λ l. l ++ behind) (take-append-drop first all)

module _ (seat : SeatValue) (cells : List (Option OrganismState)) (slices : List ℕ)
    (jobs : List Job) (left : List (Option OrganismState)) (steps : List ℕ) (now : SeatValue)
    (cut : HaveCut seat cells slices jobs left steps now) (job : Job) where
  -- one job more
  pub cut-more : (next : List Job) (front : List (Option OrganismState)) (fewer : List ℕ)
      (then : SeatValue) → job.first ≤ length left → front ≡ take job.first left
      → fewer ≡ take job.first steps → job.cells ≡ drop job.first left
      → job.slices ≡ drop job.first steps → job.seat ≡ seat_from now → then ≡ seat_without now 1
      → next ≡ jobs ++ job ∷ [] → HaveCut seat cells slices next front fewer then
  cut-more next front fewer then within front_is fewer_is cells_is slices_is seat_is then_is
      next_is =
      let size : length front ≡ job.first =
      ap length front_is ∙ length-take-le job.first left within in
      let many : length job.cells ≡ length left - job.first =
      ap length cells_is ∙ length-drop job.first left in
      let more : length job.slices ≡ length steps - job.first =
      ap length slices_is ∙ length-drop job.first steps in
      let end : length left ≡ length front + length job.cells = omega (arith, size, many, within) in
      let ordered : reverse next ≡ job ∷ reverse jobs = ap reverse next_is ∙ jobs-push jobs job in
      record {
        beside = rw ordered
            (sym size, omega (arith, many, more, cut.long), rw (← end) cut.beside);
        cells_are = ap (λ all. front ++ cells_in all) ordered
            ∙ put_back job.first left front job.cells (cells_in (reverse jobs)) front_is cells_is
            ∙ cut.cells_are;
        slices_are = ap (λ all. fewer ++ slices_in all) ordered
            ∙ put_back job.first steps fewer job.slices (slices_in (reverse jobs)) fewer_is slices_is
            ∙ cut.slices_are;
        long = ap length fewer_is ∙ length-take-le job.first steps (omega (arith, within, cut.long))
            ∙ sym size;
        seat_is = then_is ∙ ap (λ s. seat_without s 1) cut.seat_is
            ∙ (let shares : seat.share - length jobs - 1 ≡ seat.share - length next =
            omega (arith, ap length next_is, length_push jobs job) in
            λ i. record seat { share = shares i });
        seats = rw ordered (All-cons (λ (job : Job). job.seat ≡ seat_from seat) job (reverse jobs)
            (seat_is ∙ ap seat_from cut.seat_is) cut.seats);
      }
