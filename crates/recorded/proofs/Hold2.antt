-- The definitions answer as recorded: antt computes it. By tools/model-replay. Assumes nothing.
use mathlib.Core.Path.{refl}
use Rattle.against_rust.specs.Shape.{RunHolds}
use Rattle.against_rust.proofs.OpenRuns.{open-runs}
use Rattle.recorded.specs.Runs2.{run364, run365, run366, run367, run368, run369, run370, run371, run372, run373, run374, run375, run376, run377, run378, run379, run380, run381, run382, run383, run384, run385, run386, run387, run388, run389, run390, run391, run392, run393, run394, run395, run396, run397, run398, run399, run400, run401, run402, run403, run404, run405, run406, run407, run408, run409, run410, run411, run412, run413, run414, run415, run416, run417, run418, run419, run420, run421, run422, run423, run424, run425, run426, run427, run428, run429, run430, run431, run432, run433, run434, run435, run436, run437, run438, run439, run440, run441, run442, run443, run444, run445, run446, run447, run448, run449, run450, run451, run452, run453, run454, run455, run456, run457, run458, run459, run460, run461, run462, run463, run464, run465, run466, run467, run468, run469, run470, run471, run472, run473, run474, run475, run476, run477, run478, run479, run480, run481, run482, run483, run484, run485, run486, run487, run488, run489, run490, run491, run492, run493, run494, run495, run496, run497, run498, run499, run500, run501, run502, run503, run504, run505, run506, run507, run508, run509, run510, run511, run512, run513, run514, run515, run516, run517, run518, run519, run520, run521, run522, run523, run524, run525, run526, run527, run528, run529, run530, run531, run532, run533, run534, run535, run536, run537, run538, run539, run540, run541, run542, run543, run544, run545, run546, run547, run548, run549, run550, run551, run552, run553, run554, run555, run556, run557, run558, run559, run560, run561, run562, run563, run564, run565, run566, run567, run568, run569, run570, run571, run572, run573, run574, run575, run576, run577, run578, run579, run580, run581, run582, run583, run584, run585, run586, run587}

pub hold364 : RunHolds run364
unfolding open-runs run364
hold364 = refl

pub hold365 : RunHolds run365
unfolding open-runs run365
hold365 = refl

pub hold366 : RunHolds run366
unfolding open-runs run366
hold366 = refl

pub hold367 : RunHolds run367
unfolding open-runs run367
hold367 = refl

pub hold368 : RunHolds run368
unfolding open-runs run368
hold368 = refl

pub hold369 : RunHolds run369
unfolding open-runs run369
hold369 = refl

pub hold370 : RunHolds run370
unfolding open-runs run370
hold370 = refl

pub hold371 : RunHolds run371
unfolding open-runs run371
hold371 = refl

pub hold372 : RunHolds run372
unfolding open-runs run372
hold372 = refl

pub hold373 : RunHolds run373
unfolding open-runs run373
hold373 = refl

pub hold374 : RunHolds run374
unfolding open-runs run374
hold374 = refl

pub hold375 : RunHolds run375
unfolding open-runs run375
hold375 = refl

pub hold376 : RunHolds run376
unfolding open-runs run376
hold376 = refl

pub hold377 : RunHolds run377
unfolding open-runs run377
hold377 = refl

pub hold378 : RunHolds run378
unfolding open-runs run378
hold378 = refl

pub hold379 : RunHolds run379
unfolding open-runs run379
hold379 = refl

pub hold380 : RunHolds run380
unfolding open-runs run380
hold380 = refl

pub hold381 : RunHolds run381
unfolding open-runs run381
hold381 = refl

pub hold382 : RunHolds run382
unfolding open-runs run382
hold382 = refl

pub hold383 : RunHolds run383
unfolding open-runs run383
hold383 = refl

pub hold384 : RunHolds run384
unfolding open-runs run384
hold384 = refl

pub hold385 : RunHolds run385
unfolding open-runs run385
hold385 = refl

pub hold386 : RunHolds run386
unfolding open-runs run386
hold386 = refl

pub hold387 : RunHolds run387
unfolding open-runs run387
hold387 = refl

pub hold388 : RunHolds run388
unfolding open-runs run388
hold388 = refl

pub hold389 : RunHolds run389
unfolding open-runs run389
hold389 = refl

pub hold390 : RunHolds run390
unfolding open-runs run390
hold390 = refl

pub hold391 : RunHolds run391
unfolding open-runs run391
hold391 = refl

pub hold392 : RunHolds run392
unfolding open-runs run392
hold392 = refl

pub hold393 : RunHolds run393
unfolding open-runs run393
hold393 = refl

pub hold394 : RunHolds run394
unfolding open-runs run394
hold394 = refl

pub hold395 : RunHolds run395
unfolding open-runs run395
hold395 = refl

pub hold396 : RunHolds run396
unfolding open-runs run396
hold396 = refl

pub hold397 : RunHolds run397
unfolding open-runs run397
hold397 = refl

pub hold398 : RunHolds run398
unfolding open-runs run398
hold398 = refl

pub hold399 : RunHolds run399
unfolding open-runs run399
hold399 = refl

pub hold400 : RunHolds run400
unfolding open-runs run400
hold400 = refl

pub hold401 : RunHolds run401
unfolding open-runs run401
hold401 = refl

pub hold402 : RunHolds run402
unfolding open-runs run402
hold402 = refl

pub hold403 : RunHolds run403
unfolding open-runs run403
hold403 = refl

pub hold404 : RunHolds run404
unfolding open-runs run404
hold404 = refl

pub hold405 : RunHolds run405
unfolding open-runs run405
hold405 = refl

pub hold406 : RunHolds run406
unfolding open-runs run406
hold406 = refl

pub hold407 : RunHolds run407
unfolding open-runs run407
hold407 = refl

pub hold408 : RunHolds run408
unfolding open-runs run408
hold408 = refl

pub hold409 : RunHolds run409
unfolding open-runs run409
hold409 = refl

pub hold410 : RunHolds run410
unfolding open-runs run410
hold410 = refl

pub hold411 : RunHolds run411
unfolding open-runs run411
hold411 = refl

pub hold412 : RunHolds run412
unfolding open-runs run412
hold412 = refl

pub hold413 : RunHolds run413
unfolding open-runs run413
hold413 = refl

pub hold414 : RunHolds run414
unfolding open-runs run414
hold414 = refl

pub hold415 : RunHolds run415
unfolding open-runs run415
hold415 = refl

pub hold416 : RunHolds run416
unfolding open-runs run416
hold416 = refl

pub hold417 : RunHolds run417
unfolding open-runs run417
hold417 = refl

pub hold418 : RunHolds run418
unfolding open-runs run418
hold418 = refl

pub hold419 : RunHolds run419
unfolding open-runs run419
hold419 = refl

pub hold420 : RunHolds run420
unfolding open-runs run420
hold420 = refl

pub hold421 : RunHolds run421
unfolding open-runs run421
hold421 = refl

pub hold422 : RunHolds run422
unfolding open-runs run422
hold422 = refl

pub hold423 : RunHolds run423
unfolding open-runs run423
hold423 = refl

pub hold424 : RunHolds run424
unfolding open-runs run424
hold424 = refl

pub hold425 : RunHolds run425
unfolding open-runs run425
hold425 = refl

pub hold426 : RunHolds run426
unfolding open-runs run426
hold426 = refl

pub hold427 : RunHolds run427
unfolding open-runs run427
hold427 = refl

pub hold428 : RunHolds run428
unfolding open-runs run428
hold428 = refl

pub hold429 : RunHolds run429
unfolding open-runs run429
hold429 = refl

pub hold430 : RunHolds run430
unfolding open-runs run430
hold430 = refl

pub hold431 : RunHolds run431
unfolding open-runs run431
hold431 = refl

pub hold432 : RunHolds run432
unfolding open-runs run432
hold432 = refl

pub hold433 : RunHolds run433
unfolding open-runs run433
hold433 = refl

pub hold434 : RunHolds run434
unfolding open-runs run434
hold434 = refl

pub hold435 : RunHolds run435
unfolding open-runs run435
hold435 = refl

pub hold436 : RunHolds run436
unfolding open-runs run436
hold436 = refl

pub hold437 : RunHolds run437
unfolding open-runs run437
hold437 = refl

pub hold438 : RunHolds run438
unfolding open-runs run438
hold438 = refl

pub hold439 : RunHolds run439
unfolding open-runs run439
hold439 = refl

pub hold440 : RunHolds run440
unfolding open-runs run440
hold440 = refl

pub hold441 : RunHolds run441
unfolding open-runs run441
hold441 = refl

pub hold442 : RunHolds run442
unfolding open-runs run442
hold442 = refl

pub hold443 : RunHolds run443
unfolding open-runs run443
hold443 = refl

pub hold444 : RunHolds run444
unfolding open-runs run444
hold444 = refl

pub hold445 : RunHolds run445
unfolding open-runs run445
hold445 = refl

pub hold446 : RunHolds run446
unfolding open-runs run446
hold446 = refl

pub hold447 : RunHolds run447
unfolding open-runs run447
hold447 = refl

pub hold448 : RunHolds run448
unfolding open-runs run448
hold448 = refl

pub hold449 : RunHolds run449
unfolding open-runs run449
hold449 = refl

pub hold450 : RunHolds run450
unfolding open-runs run450
hold450 = refl

pub hold451 : RunHolds run451
unfolding open-runs run451
hold451 = refl

pub hold452 : RunHolds run452
unfolding open-runs run452
hold452 = refl

pub hold453 : RunHolds run453
unfolding open-runs run453
hold453 = refl

pub hold454 : RunHolds run454
unfolding open-runs run454
hold454 = refl

pub hold455 : RunHolds run455
unfolding open-runs run455
hold455 = refl

pub hold456 : RunHolds run456
unfolding open-runs run456
hold456 = refl

pub hold457 : RunHolds run457
unfolding open-runs run457
hold457 = refl

pub hold458 : RunHolds run458
unfolding open-runs run458
hold458 = refl

pub hold459 : RunHolds run459
unfolding open-runs run459
hold459 = refl

pub hold460 : RunHolds run460
unfolding open-runs run460
hold460 = refl

pub hold461 : RunHolds run461
unfolding open-runs run461
hold461 = refl

pub hold462 : RunHolds run462
unfolding open-runs run462
hold462 = refl

pub hold463 : RunHolds run463
unfolding open-runs run463
hold463 = refl

pub hold464 : RunHolds run464
unfolding open-runs run464
hold464 = refl

pub hold465 : RunHolds run465
unfolding open-runs run465
hold465 = refl

pub hold466 : RunHolds run466
unfolding open-runs run466
hold466 = refl

pub hold467 : RunHolds run467
unfolding open-runs run467
hold467 = refl

pub hold468 : RunHolds run468
unfolding open-runs run468
hold468 = refl

pub hold469 : RunHolds run469
unfolding open-runs run469
hold469 = refl

pub hold470 : RunHolds run470
unfolding open-runs run470
hold470 = refl

pub hold471 : RunHolds run471
unfolding open-runs run471
hold471 = refl

pub hold472 : RunHolds run472
unfolding open-runs run472
hold472 = refl

pub hold473 : RunHolds run473
unfolding open-runs run473
hold473 = refl

pub hold474 : RunHolds run474
unfolding open-runs run474
hold474 = refl

pub hold475 : RunHolds run475
unfolding open-runs run475
hold475 = refl

pub hold476 : RunHolds run476
unfolding open-runs run476
hold476 = refl

pub hold477 : RunHolds run477
unfolding open-runs run477
hold477 = refl

pub hold478 : RunHolds run478
unfolding open-runs run478
hold478 = refl

pub hold479 : RunHolds run479
unfolding open-runs run479
hold479 = refl

pub hold480 : RunHolds run480
unfolding open-runs run480
hold480 = refl

pub hold481 : RunHolds run481
unfolding open-runs run481
hold481 = refl

pub hold482 : RunHolds run482
unfolding open-runs run482
hold482 = refl

pub hold483 : RunHolds run483
unfolding open-runs run483
hold483 = refl

pub hold484 : RunHolds run484
unfolding open-runs run484
hold484 = refl

pub hold485 : RunHolds run485
unfolding open-runs run485
hold485 = refl

pub hold486 : RunHolds run486
unfolding open-runs run486
hold486 = refl

pub hold487 : RunHolds run487
unfolding open-runs run487
hold487 = refl

pub hold488 : RunHolds run488
unfolding open-runs run488
hold488 = refl

pub hold489 : RunHolds run489
unfolding open-runs run489
hold489 = refl

pub hold490 : RunHolds run490
unfolding open-runs run490
hold490 = refl

pub hold491 : RunHolds run491
unfolding open-runs run491
hold491 = refl

pub hold492 : RunHolds run492
unfolding open-runs run492
hold492 = refl

pub hold493 : RunHolds run493
unfolding open-runs run493
hold493 = refl

pub hold494 : RunHolds run494
unfolding open-runs run494
hold494 = refl

pub hold495 : RunHolds run495
unfolding open-runs run495
hold495 = refl

pub hold496 : RunHolds run496
unfolding open-runs run496
hold496 = refl

pub hold497 : RunHolds run497
unfolding open-runs run497
hold497 = refl

pub hold498 : RunHolds run498
unfolding open-runs run498
hold498 = refl

pub hold499 : RunHolds run499
unfolding open-runs run499
hold499 = refl

pub hold500 : RunHolds run500
unfolding open-runs run500
hold500 = refl

pub hold501 : RunHolds run501
unfolding open-runs run501
hold501 = refl

pub hold502 : RunHolds run502
unfolding open-runs run502
hold502 = refl

pub hold503 : RunHolds run503
unfolding open-runs run503
hold503 = refl

pub hold504 : RunHolds run504
unfolding open-runs run504
hold504 = refl

pub hold505 : RunHolds run505
unfolding open-runs run505
hold505 = refl

pub hold506 : RunHolds run506
unfolding open-runs run506
hold506 = refl

pub hold507 : RunHolds run507
unfolding open-runs run507
hold507 = refl

pub hold508 : RunHolds run508
unfolding open-runs run508
hold508 = refl

pub hold509 : RunHolds run509
unfolding open-runs run509
hold509 = refl

pub hold510 : RunHolds run510
unfolding open-runs run510
hold510 = refl

pub hold511 : RunHolds run511
unfolding open-runs run511
hold511 = refl

pub hold512 : RunHolds run512
unfolding open-runs run512
hold512 = refl

pub hold513 : RunHolds run513
unfolding open-runs run513
hold513 = refl

pub hold514 : RunHolds run514
unfolding open-runs run514
hold514 = refl

pub hold515 : RunHolds run515
unfolding open-runs run515
hold515 = refl

pub hold516 : RunHolds run516
unfolding open-runs run516
hold516 = refl

pub hold517 : RunHolds run517
unfolding open-runs run517
hold517 = refl

pub hold518 : RunHolds run518
unfolding open-runs run518
hold518 = refl

pub hold519 : RunHolds run519
unfolding open-runs run519
hold519 = refl

pub hold520 : RunHolds run520
unfolding open-runs run520
hold520 = refl

pub hold521 : RunHolds run521
unfolding open-runs run521
hold521 = refl

pub hold522 : RunHolds run522
unfolding open-runs run522
hold522 = refl

pub hold523 : RunHolds run523
unfolding open-runs run523
hold523 = refl

pub hold524 : RunHolds run524
unfolding open-runs run524
hold524 = refl

pub hold525 : RunHolds run525
unfolding open-runs run525
hold525 = refl

pub hold526 : RunHolds run526
unfolding open-runs run526
hold526 = refl

pub hold527 : RunHolds run527
unfolding open-runs run527
hold527 = refl

pub hold528 : RunHolds run528
unfolding open-runs run528
hold528 = refl

pub hold529 : RunHolds run529
unfolding open-runs run529
hold529 = refl

pub hold530 : RunHolds run530
unfolding open-runs run530
hold530 = refl

pub hold531 : RunHolds run531
unfolding open-runs run531
hold531 = refl

pub hold532 : RunHolds run532
unfolding open-runs run532
hold532 = refl

pub hold533 : RunHolds run533
unfolding open-runs run533
hold533 = refl

pub hold534 : RunHolds run534
unfolding open-runs run534
hold534 = refl

pub hold535 : RunHolds run535
unfolding open-runs run535
hold535 = refl

pub hold536 : RunHolds run536
unfolding open-runs run536
hold536 = refl

pub hold537 : RunHolds run537
unfolding open-runs run537
hold537 = refl

pub hold538 : RunHolds run538
unfolding open-runs run538
hold538 = refl

pub hold539 : RunHolds run539
unfolding open-runs run539
hold539 = refl

pub hold540 : RunHolds run540
unfolding open-runs run540
hold540 = refl

pub hold541 : RunHolds run541
unfolding open-runs run541
hold541 = refl

pub hold542 : RunHolds run542
unfolding open-runs run542
hold542 = refl

pub hold543 : RunHolds run543
unfolding open-runs run543
hold543 = refl

pub hold544 : RunHolds run544
unfolding open-runs run544
hold544 = refl

pub hold545 : RunHolds run545
unfolding open-runs run545
hold545 = refl

pub hold546 : RunHolds run546
unfolding open-runs run546
hold546 = refl

pub hold547 : RunHolds run547
unfolding open-runs run547
hold547 = refl

pub hold548 : RunHolds run548
unfolding open-runs run548
hold548 = refl

pub hold549 : RunHolds run549
unfolding open-runs run549
hold549 = refl

pub hold550 : RunHolds run550
unfolding open-runs run550
hold550 = refl

pub hold551 : RunHolds run551
unfolding open-runs run551
hold551 = refl

pub hold552 : RunHolds run552
unfolding open-runs run552
hold552 = refl

pub hold553 : RunHolds run553
unfolding open-runs run553
hold553 = refl

pub hold554 : RunHolds run554
unfolding open-runs run554
hold554 = refl

pub hold555 : RunHolds run555
unfolding open-runs run555
hold555 = refl

pub hold556 : RunHolds run556
unfolding open-runs run556
hold556 = refl

pub hold557 : RunHolds run557
unfolding open-runs run557
hold557 = refl

pub hold558 : RunHolds run558
unfolding open-runs run558
hold558 = refl

pub hold559 : RunHolds run559
unfolding open-runs run559
hold559 = refl

pub hold560 : RunHolds run560
unfolding open-runs run560
hold560 = refl

pub hold561 : RunHolds run561
unfolding open-runs run561
hold561 = refl

pub hold562 : RunHolds run562
unfolding open-runs run562
hold562 = refl

pub hold563 : RunHolds run563
unfolding open-runs run563
hold563 = refl

pub hold564 : RunHolds run564
unfolding open-runs run564
hold564 = refl

pub hold565 : RunHolds run565
unfolding open-runs run565
hold565 = refl

pub hold566 : RunHolds run566
unfolding open-runs run566
hold566 = refl

pub hold567 : RunHolds run567
unfolding open-runs run567
hold567 = refl

pub hold568 : RunHolds run568
unfolding open-runs run568
hold568 = refl

pub hold569 : RunHolds run569
unfolding open-runs run569
hold569 = refl

pub hold570 : RunHolds run570
unfolding open-runs run570
hold570 = refl

pub hold571 : RunHolds run571
unfolding open-runs run571
hold571 = refl

pub hold572 : RunHolds run572
unfolding open-runs run572
hold572 = refl

pub hold573 : RunHolds run573
unfolding open-runs run573
hold573 = refl

pub hold574 : RunHolds run574
unfolding open-runs run574
hold574 = refl

pub hold575 : RunHolds run575
unfolding open-runs run575
hold575 = refl

pub hold576 : RunHolds run576
unfolding open-runs run576
hold576 = refl

pub hold577 : RunHolds run577
unfolding open-runs run577
hold577 = refl

pub hold578 : RunHolds run578
unfolding open-runs run578
hold578 = refl

pub hold579 : RunHolds run579
unfolding open-runs run579
hold579 = refl

pub hold580 : RunHolds run580
unfolding open-runs run580
hold580 = refl

pub hold581 : RunHolds run581
unfolding open-runs run581
hold581 = refl

pub hold582 : RunHolds run582
unfolding open-runs run582
hold582 = refl

pub hold583 : RunHolds run583
unfolding open-runs run583
hold583 = refl

pub hold584 : RunHolds run584
unfolding open-runs run584
hold584 = refl

pub hold585 : RunHolds run585
unfolding open-runs run585
hold585 = refl

pub hold586 : RunHolds run586
unfolding open-runs run586
hold586 = refl

pub hold587 : RunHolds run587
unfolding open-runs run587
hold587 = refl
