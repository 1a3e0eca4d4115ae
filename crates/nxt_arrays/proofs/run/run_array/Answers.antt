-- Each statement's operands are as its function asks, and what the function stores is what the statement means.
use Rattle.std.proofs.Common.{Ok, ◌≡◌, ◌≢◌, ℕ, Bool, true, false, not, List, [], ◌∷◌, IsSome, map, All, refl, sym, ap, ◌∙◌, subst}
use Rattle.std.proofs.lemmas.Bool.{and_parts}
use Rattle.nxt_types.specs.declared.instr.Op.{Op}
use Rattle.nxt_types.specs.declared.instr.Op.TheVariants as ops
use Rattle.nxt_types.specs.Shapes.{has_list, convertible}
use Rattle.nxt_types.specs.Calls.{is_text}
use Rattle.nxt_types.specs.OperandRules.{goes_into}
use Rattle.nxt_model.specs.Means.Arrays.{build}
use Rattle.nxt_model.specs.Means.Strings.{concatenate}
use Rattle.nxt_model.specs.Values.{Value}
use Rattle.nxt_space.specs.Variables.{name_of, shape_of}
use Rattle.nxt_space.specs.Outcomes.{Does}
use Rattle.nxt_operands.specs.Operands.{Done, given, place_of, values_stored}
use Rattle.nxt_operands.proofs.Laws.Named.{named_some}
use Rattle.nxt_arrays.specs.Arrays.{runs}
use Rattle.nxt_arrays.proofs.Fitting as fits
use Rattle.nxt_arrays.proofs.SeveralFitting as several
use Rattle.nxt_arrays.proofs.Meanings as meanings
use Rattle.nxt_arrays.proofs.run.run_array.Goals as goal

-- ---- lists

pub index-requires : goal.index-requires
index-requires c =
    let s = c.args.space.now.vars in
    let i = c.args.i.now in
    let f = fits.index_fit s i c.args.words.now c.in-Index.is c.requires.fit in
    record {
      sound = c.requires.sound;
      dest = named_some s i.a f.two.first.named;
      list = named_some s i.b f.two.second.named;
      of_list = f.two.second.has;
      fit = f.two.asked;
    }

pub returns-in-Index-clause-does : goal.returns-in-Index-clause-does
returns-in-Index-clause-does c d t =
    let s = c.args.space.now.vars in
    let i = c.args.i.now in
    let means = meanings.index_means s i c.args.words.now d t c.in-Index.is (fits.index_fit s i c.args.words.now c.in-Index.is c.requires.fit) in
    subst (λ v. Does Done v c.args.space.now c.index.result c.index.new.space) (sym means) (c.index.ensures.does d)

pub replace-requires : goal.replace-requires
replace-requires c =
    let s = c.args.space.now.vars in
    let i = c.args.i.now in
    let f = fits.replace_fit s i c.args.words.now c.in-Replace.is c.requires.fit in
    record {
      sound = c.requires.sound;
      dest = named_some s i.a f.two.first.named;
      list = named_some s i.b f.two.second.named;
      new = named_some s i.d f.new.second.named;
      of_list = f.two.second.has;
      fit = f.two.asked;
      goes = f.new.asked;
    }

pub returns-in-Replace-clause-does : goal.returns-in-Replace-clause-does
returns-in-Replace-clause-does c d t =
    let s = c.args.space.now.vars in
    let i = c.args.i.now in
    let means = meanings.replace_means s i c.args.words.now d t c.in-Replace.is (fits.replace_fit s i c.args.words.now c.in-Replace.is c.requires.fit) in
    subst (λ v. Does Done v c.args.space.now c.replace.result c.replace.new.space) (sym means) (c.replace.ensures.does d)

pub array_size-requires : goal.array_size-requires
array_size-requires c =
    let s = c.args.space.now.vars in
    let i = c.args.i.now in
    let f = fits.size_fit s i c.args.words.now c.in-Arrsize.is c.requires.fit in
    record {
      sound = c.requires.sound;
      dest = named_some s i.a f.first.named;
      list = named_some s i.b f.second.named;
      number = f.first.has;
    }

pub returns-in-Arrsize-clause-does : goal.returns-in-Arrsize-clause-does
returns-in-Arrsize-clause-does c d t =
    let s = c.args.space.now.vars in
    let i = c.args.i.now in
    let means = meanings.size_means s i c.args.words.now d t c.in-Arrsize.is (fits.size_fit s i c.args.words.now c.in-Arrsize.is c.requires.fit) in
    subst (λ v. Does Done v c.args.space.now (Ok tt) c.array_size.new.space) (sym means) (c.array_size.ensures.does d)

pub subset-requires : goal.subset-requires
subset-requires c =
    let s = c.args.space.now.vars in
    let i = c.args.i.now in
    let f = fits.subset_fit s i c.args.words.now c.in-Arrsubset.is c.requires.fit in
    record {
      sound = c.requires.sound;
      dest = named_some s i.a f.two.first.named;
      list = named_some s i.b f.two.second.named;
      of_list = f.two.second.has;
      fit = f.two.asked;
    }

pub returns-in-Arrsubset-clause-does : goal.returns-in-Arrsubset-clause-does
returns-in-Arrsubset-clause-does c d t =
    let s = c.args.space.now.vars in
    let i = c.args.i.now in
    let means = meanings.subset_means s i c.args.words.now d t c.in-Arrsubset.is (fits.subset_fit s i c.args.words.now c.in-Arrsubset.is c.requires.fit) in
    subst (λ v. Does Done v c.args.space.now c.subset.result c.subset.new.space) (sym means) (c.subset.ensures.does d)

pub initialize-requires : goal.initialize-requires
initialize-requires c =
    let s = c.args.space.now.vars in
    let i = c.args.i.now in
    let f = fits.initialize_fit s i c.args.words.now c.in-Arrinit.is c.requires.fit in
    record {
      sound = c.requires.sound;
      dest = named_some s i.a f.two.first.named;
      value = named_some s i.b f.two.second.named;
      count = named_some s i.c f.count.named;
      of_list = f.two.first.has;
      number = f.count.has;
      fit = f.two.asked;
    }

pub returns-in-Arrinit-clause-does : goal.returns-in-Arrinit-clause-does
returns-in-Arrinit-clause-does c d t =
    let s = c.args.space.now.vars in
    let i = c.args.i.now in
    let means = meanings.initialize_means s i c.args.words.now d t c.in-Arrinit.is (fits.initialize_fit s i c.args.words.now c.in-Arrinit.is c.requires.fit) in
    subst (λ v. Does Done v c.args.space.now c.initialize.result c.initialize.new.space) (sym means) (c.initialize.ensures.does d)

-- ---- values as bytes, and numbers in texts

-- of a value without lists
no_list : (b : Bool) → not b ≡ true → b ≡ false
no_list true e = let f : ⊥ = cc in absurd f
no_list false e = refl

pub flatten-requires : goal.flatten-requires
flatten-requires c =
    let s = c.args.space.now.vars in
    let i = c.args.i.now in
    let f = fits.flatten_fit s i c.args.words.now c.in-Flatten.is c.requires.fit in
    record {
      sound = c.requires.sound;
      dest = named_some s i.a f.first.named;
      value = named_some s i.b f.second.named;
      text = f.first.has;
      no_list = no_list (has_list (shape_of s i.b)) f.asked;
    }

pub returns-in-Flatten-clause-does : goal.returns-in-Flatten-clause-does
returns-in-Flatten-clause-does c d t =
    let s = c.args.space.now.vars in
    let i = c.args.i.now in
    let means = meanings.flatten_means s i c.args.words.now d t c.in-Flatten.is (fits.flatten_fit s i c.args.words.now c.in-Flatten.is c.requires.fit) in
    subst (λ v. Does Done v c.args.space.now c.flatten.result c.flatten.new.space) (sym means) (c.flatten.ensures.does d)

pub unflatten-requires : goal.unflatten-requires
unflatten-requires c =
    let s = c.args.space.now.vars in
    let i = c.args.i.now in
    let f = fits.unflatten_fit s i c.args.words.now c.in-Unflatten.is c.requires.fit in
    record {
      sound = c.requires.sound;
      dest = named_some s i.a f.two.first.named;
      source = named_some s i.c f.source.named;
      kind_of = named_some s i.d f.two.second.named;
      error = λ given. (f.error given).has;
      source_text = f.source.has;
      no_list = no_list (has_list (shape_of s i.d)) (and_parts (not (has_list (shape_of s i.d))) (convertible (shape_of s i.a) (shape_of s i.d)) f.two.asked).0;
      fit = (and_parts (not (has_list (shape_of s i.d))) (convertible (shape_of s i.a) (shape_of s i.d)) f.two.asked).1;
    }

pub returns-in-Unflatten-clause-does : goal.returns-in-Unflatten-clause-does
returns-in-Unflatten-clause-does c d t =
    let s = c.args.space.now.vars in
    let i = c.args.i.now in
    let means = meanings.unflatten_means s i c.args.words.now d t c.in-Unflatten.is (fits.unflatten_fit s i c.args.words.now c.in-Unflatten.is c.requires.fit) in
    subst (λ v. Does Done v c.args.space.now c.unflatten.result c.unflatten.new.space) (sym means) (c.unflatten.ensures.does d)

pub number_to_string-requires : goal.number_to_string-requires
number_to_string-requires c =
    let s = c.args.space.now.vars in
    let i = c.args.i.now in
    let f = fits.to_string_fit s i c.args.words.now c.in-Numtostr.is c.requires.fit in
    record {
      sound = c.requires.sound;
      dest = named_some s i.a f.first.named;
      number = named_some s i.b f.second.named;
      text = f.first.has;
      is_number = f.second.has;
    }

pub returns-in-Numtostr-clause-does : goal.returns-in-Numtostr-clause-does
returns-in-Numtostr-clause-does c d t =
    let s = c.args.space.now.vars in
    let i = c.args.i.now in
    let means = meanings.to_string_means s i c.args.words.now d t c.in-Numtostr.is (fits.to_string_fit s i c.args.words.now c.in-Numtostr.is c.requires.fit) in
    subst (λ v. Does Done v c.args.space.now c.number_to_string.result c.number_to_string.new.space) (sym means) (c.number_to_string.ensures.does d)

pub string_to_number-requires : goal.string_to_number-requires
string_to_number-requires c =
    let s = c.args.space.now.vars in
    let i = c.args.i.now in
    let f = fits.to_number_fit s i c.args.words.now c.in-Strtonum.is c.requires.fit in
    record {
      sound = c.requires.sound;
      dest = named_some s i.a f.two.first.named;
      source = named_some s i.c f.two.second.named;
      number = f.two.first.has;
      past = λ given. (f.past given).has;
      source_text = f.two.second.has;
    }

pub returns-in-Strtonum-clause-does : goal.returns-in-Strtonum-clause-does
returns-in-Strtonum-clause-does c d t =
    let s = c.args.space.now.vars in
    let i = c.args.i.now in
    let means = meanings.to_number_means s i c.args.words.now d t c.in-Strtonum.is (fits.to_number_fit s i c.args.words.now c.in-Strtonum.is c.requires.fit) in
    subst (λ v. Does Done v c.args.space.now c.string_to_number.result c.string_to_number.new.space) (sym means) (c.string_to_number.ensures.does d)

-- ---- texts

pub substring-requires : goal.substring-requires
substring-requires c =
    let s = c.args.space.now.vars in
    let i = c.args.i.now in
    let f = fits.substring_fit s i c.args.words.now c.in-Strsubset.is c.requires.fit in
    record {
      sound = c.requires.sound;
      dest = named_some s i.a f.two.first.named;
      source = named_some s i.b f.two.second.named;
      text = f.two.first.has;
      source_text = f.two.second.has;
    }

pub returns-in-Strsubset-clause-does : goal.returns-in-Strsubset-clause-does
returns-in-Strsubset-clause-does c d t =
    let s = c.args.space.now.vars in
    let i = c.args.i.now in
    let means = meanings.substring_means s i c.args.words.now d t c.in-Strsubset.is (fits.substring_fit s i c.args.words.now c.in-Strsubset.is c.requires.fit) in
    subst (λ v. Does Done v c.args.space.now c.substring.result c.substring.new.space) (sym means) (c.substring.ensures.does d)

pub string_to_array-requires : goal.string_to_array-requires
string_to_array-requires c =
    let s = c.args.space.now.vars in
    let i = c.args.i.now in
    let f = fits.to_array_fit s i c.args.words.now c.in-Strtoarr.is c.requires.fit in
    record {
      sound = c.requires.sound;
      dest = named_some s i.a f.first.named;
      source = named_some s i.b f.second.named;
      text = f.first.has;
      source_text = f.second.has;
    }

pub returns-in-Strtoarr-clause-does : goal.returns-in-Strtoarr-clause-does
returns-in-Strtoarr-clause-does c d t =
    let s = c.args.space.now.vars in
    let i = c.args.i.now in
    let means = meanings.to_array_means s i c.args.words.now d t c.in-Strtoarr.is (fits.to_array_fit s i c.args.words.now c.in-Strtoarr.is c.requires.fit) in
    subst (λ v. Does Done v c.args.space.now c.string_to_array.result c.string_to_array.new.space) (sym means) (c.string_to_array.ensures.does d)

-- the only statement left
only_left : (o : Op) → runs o ≡ true → o ≢ ops.Index → o ≢ ops.Replace → o ≢ ops.Arrsize → o ≢ ops.Arrbuild → o ≢ ops.Arrsubset → o ≢ ops.Arrinit → o ≢ ops.Flatten → o ≢ ops.Unflatten → o ≢ ops.Numtostr → o ≢ ops.Strtonum → o ≢ ops.Strcat → o ≢ ops.Strsubset → o ≢ ops.Strtoarr → o ≡ ops.Arrtostr
only_left ops.Index r a b c d e f g h i j k l m = absurd (a refl)
only_left ops.Replace r a b c d e f g h i j k l m = absurd (b refl)
only_left ops.Arrsize r a b c d e f g h i j k l m = absurd (c refl)
only_left ops.Arrbuild r a b c d e f g h i j k l m = absurd (d refl)
only_left ops.Arrsubset r a b c d e f g h i j k l m = absurd (e refl)
only_left ops.Arrinit r a b c d e f g h i j k l m = absurd (f refl)
only_left ops.Flatten r a b c d e f g h i j k l m = absurd (g refl)
only_left ops.Unflatten r a b c d e f g h i j k l m = absurd (h refl)
only_left ops.Numtostr r a b c d e f g h i j k l m = absurd (i refl)
only_left ops.Strtonum r a b c d e f g h i j k l m = absurd (j refl)
only_left ops.Strcat r a b c d e f g h i j k l m = absurd (k refl)
only_left ops.Strsubset r a b c d e f g h i j k l m = absurd (l refl)
only_left ops.Strtoarr r a b c d e f g h i j k l m = absurd (m refl)
only_left ops.Arrtostr r a b c d e f g h i j k l m = refl
only_left _ r a b c d e f g h i j k l m = let no : ⊥ = cc in absurd no

is_left : (c : goal.After-array_to_string-arg-1) → c.args.i.now.op ≡ ops.Arrtostr
is_left c = only_left c.args.i.now.op c.requires.runs c.in_default.not-Index c.in_default.not-Replace c.in_default.not-Arrsize c.in_default.not-Arrbuild c.in_default.not-Arrsubset c.in_default.not-Arrinit c.in_default.not-Flatten c.in_default.not-Unflatten c.in_default.not-Numtostr c.in_default.not-Strtonum c.in_default.not-Strcat c.in_default.not-Strsubset c.in_default.not-Strtoarr

pub array_to_string-requires : goal.array_to_string-requires
array_to_string-requires c =
    let s = c.args.space.now.vars in
    let i = c.args.i.now in
    let f = fits.of_array_fit s i c.args.words.now (is_left c) c.requires.fit in
    record {
      sound = c.requires.sound;
      dest = named_some s i.a f.first.named;
      source = named_some s i.b f.second.named;
      text = f.first.has;
      source_text = f.second.has;
    }

pub returns-in_default-clause-does : goal.returns-in_default-clause-does
returns-in_default-clause-does c d t =
    let s = c.args.space.now.vars in
    let i = c.args.i.now in
    let left = only_left i.op c.requires.runs c.in_default.not-Index c.in_default.not-Replace c.in_default.not-Arrsize c.in_default.not-Arrbuild c.in_default.not-Arrsubset c.in_default.not-Arrinit c.in_default.not-Flatten c.in_default.not-Unflatten c.in_default.not-Numtostr c.in_default.not-Strtonum c.in_default.not-Strcat c.in_default.not-Strsubset c.in_default.not-Strtoarr in
    let means = meanings.of_array_means s i c.args.words.now d t left (fits.of_array_fit s i c.args.words.now left c.requires.fit) in
    subst (λ v. Does Done v c.args.space.now c.array_to_string.result c.array_to_string.new.space) (sym means) (c.array_to_string.ensures.does d)

-- ---- any number of operands

pub build-requires : goal.build-requires
build-requires c =
    let s = c.args.space.now.vars in
    let i = c.args.i.now in
    let f = several.build_fit s i c.args.words.now c.in-Arrbuild.is c.requires.fit in
    let is = sym c.sources_of.ensures.sources in
    record {
      sound = c.requires.sound;
      dest = named_some s i.a f.first.named;
      of_list = f.first.has;
      few = c.sources_of.ensures.few;
      sources = subst (All (λ w. IsSome (name_of s w))) is (λ k d less. named_some s _ (f.parts k d less).named);
      fit = subst (All (λ w. goes_into (shape_of s i.a) (shape_of s w) ≡ true)) is f.asked;
    }

pub returns-in-Arrbuild-clause-does : goal.returns-in-Arrbuild-clause-does
returns-in-Arrbuild-clause-does c d t =
    let s = c.args.space.now.vars in
    let i = c.args.i.now in
    let means = meanings.build_means s i c.args.words.now d t c.in-Arrbuild.is (several.build_fit s i c.args.words.now c.in-Arrbuild.is c.requires.fit) in
    let stored : List ℕ → Value = λ ws. values_stored s (place_of s i.a ∷ []) (build d (given s i.a ∷ map (given s) ws)) in
    subst (λ v. Does Done v c.args.space.now c.build.result c.build.new.space) (ap stored c.sources_of.ensures.sources ∙ sym means) (c.build.ensures.does d)

pub concatenate-requires : goal.concatenate-requires
concatenate-requires c =
    let s = c.args.space.now.vars in
    let i = c.args.i.now in
    let f = several.concatenate_fit s i c.args.words.now c.in-Strcat.is c.requires.fit in
    let is = sym c.sources_of-in-Strcat.ensures.sources in
    record {
      sound = c.requires.sound;
      dest = named_some s i.a f.first.named;
      text = f.first.has;
      few = c.sources_of-in-Strcat.ensures.few;
      sources = subst (All (λ w. IsSome (name_of s w))) is (λ k d less. named_some s _ (f.parts k d less).named);
      texts = subst (All (λ w. is_text (shape_of s w) ≡ true)) is (λ k d less. (f.parts k d less).has);
    }

pub returns-in-Strcat-clause-does : goal.returns-in-Strcat-clause-does
returns-in-Strcat-clause-does c d t =
    let s = c.args.space.now.vars in
    let i = c.args.i.now in
    let means = meanings.concatenate_means s i c.args.words.now d t c.in-Strcat.is (several.concatenate_fit s i c.args.words.now c.in-Strcat.is c.requires.fit) in
    let stored : List ℕ → Value = λ ws. values_stored s (place_of s i.a ∷ []) (concatenate d (given s i.a ∷ map (given s) ws)) in
    subst (λ v. Does Done v c.args.space.now c.concatenate.result c.concatenate.new.space) (ap stored c.sources_of-in-Strcat.ensures.sources ∙ sym means) (c.concatenate.ensures.does d)
